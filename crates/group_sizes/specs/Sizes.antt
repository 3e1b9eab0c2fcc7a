-- Sizes by place of a declaration: how many records stand behind it once its groups are inlined, saturated at 1,601.
use Rattle.std.specs.Prelude.{ℕ, zero, suc, ◌+◌, ◌-◌, ◌<◌, ◌≤◌, min, ◌≡◌, List, Bool, true, length, get_or, eqb, if◌then◌else◌}
use Rattle.rules.specs.Kinds as kind
use Rattle.rules.specs.Kinds.{is_decl}
use Rattle.rules.specs.Table.{at}
use Rattle.rules.specs.InlineGroups.{is_kept}
use Rattle.rules.specs.declared.Record.{Record}
use Rattle.group_sizes.specs.GroupsFirst.{GroupsFirst}
use Rattle.group_sizes.specs.Members.{is_bound}
use Rattle.group_sizes.specs.Targets.{TargetsKnown}

-- how many records a record of kind k at p becomes; bound says that it belongs to a group field
abbrev pub size_here : List ℕ → List ℕ → ℕ → ℕ → Bool → ℕ
size_here targets sizes k p bound = if eqb k kind.group_field then get_or sizes (get_or targets p 0) 0 else if bound then 0 else 1

-- the same of the record at p
unfoldable pub size_at : List ℕ → List ℕ → List Record → ℕ → ℕ
size_at targets sizes rs p = size_here targets sizes (at rs p).kind p (is_bound rs p)

-- the same of the n records from p on, up to the next declaration
unfoldable pub fields_size : List ℕ → List ℕ → List Record → ℕ → ℕ → ℕ
fields_size targets sizes rs p zero = 0
fields_size targets sizes rs p (suc n) =
    if is_decl (at rs p).kind then 0 else size_at targets sizes rs p + fields_size targets sizes rs (p + 1) n

abbrev pub size_from : List ℕ → List ℕ → List Record → ℕ → ℕ
size_from targets sizes rs p = fields_size targets sizes rs p (length rs - p)

-- sizes has the size of each declaration below n
pub record Sized (rs : List Record) (targets sizes : List ℕ) (n : ℕ) : Type 0 where
  pub long : length rs ≤ length sizes
  pub right : (d : ℕ) → d < n → is_decl (at rs d).kind ≡ true → get_or sizes d 0 ≡ min 1601 (size_from targets sizes rs (d + 1))

-- what is known of a table once its groups are measured
pub record Measured (rs : List Record) (targets sizes : List ℕ) : Type 0 where
  pub groups : GroupsFirst rs
  pub resolved : TargetsKnown rs targets (length rs)
  pub sized : Sized rs targets sizes (length rs)

-- how many records the places below n become
unfoldable pub total_size : List ℕ → List Record → ℕ → ℕ
total_size sizes rs zero = 0
total_size sizes rs (suc d) = total_size sizes rs d + (if is_kept (at rs d).kind then 1 + get_or sizes d 0 else 0)

-- what is asked where the records behind the declaration at d are counted: the targets of group fields are known, and there is room for sizes
abbrev pub SizingAfter : List Record → List ℕ → List ℕ → ℕ → Type 0
SizingAfter rs targets sizes d =
    TargetsKnown rs targets (length rs) × (length rs ≤ length sizes) × (d < length rs) × (is_decl (at rs d).kind ≡ true)
