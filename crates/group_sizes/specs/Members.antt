-- The records behind a declaration, up to the next one.
use Rattle.std.specs.Prelude.{ℕ, ◌+◌, ◌<◌, ◌≤◌, ◌≡◌, ◌⊎◌, List, Bool, true, false, ◌&&◌, length, None, Option, Some}
use Rattle.rules.specs.Table.{at}
use Rattle.rules.specs.Kinds.{is_decl}
use Rattle.rules.specs.InlineGroups.{is_constraint_or_condition, after_group}
use Rattle.rules.specs.declared.Record.{Record}
use Rattle.group_sizes.specs.declared.members.Member.{Member}

-- the record at p is a constraint or a condition of a group field
abbrev pub is_bound : List Record → ℕ → Bool
is_bound rs p = is_constraint_or_condition (at rs p).kind && after_group rs p

-- m is what stands at its place, and that is no declaration
pub record MemberIn (rs : List Record) (m : Member) : Type 0 where
  pub below : m.place < length rs
  pub inside : is_decl (at rs m.place).kind ≡ false
  pub kind : m.kind ≡ (at rs m.place).kind
  pub bound : m.bound ≡ is_bound rs m.place

-- none stands at p: a declaration does, or the table ends
abbrev pub Ends : List Record → ℕ → Type 0
Ends rs p = ((p < length rs) × (is_decl (at rs p).kind ≡ true)) ⊎ (length rs ≤ p)

-- what a step from place p of a table gives, and the place of it that it leads to
abbrev pub Step : List Record → ℕ → Option Member → List Record → ℕ → Type 0
Step rs p None rs' q = Ends rs p × (rs' ≡ rs) × (q ≡ p)
Step rs p (Some m) rs' q = MemberIn rs m × (rs' ≡ rs) × (m.place ≡ p) × (q ≡ m.place + 1)
