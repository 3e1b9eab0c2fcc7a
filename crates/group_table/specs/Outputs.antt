-- Records written one after another, and what the recursion over the groups needs and gives.
use Rattle.std.specs.Prelude.{ℕ, ◌+◌, ◌≤◌, ◌<◌, ◌≡◌, List, [], ◌∷◌, true, length, get_or, set, if◌then◌else◌, None, Option, Some}
use Rattle.rules.specs.Table.{at, field_key}
use Rattle.rules.specs.Places.{nearest, holds_at}
use Rattle.rules.specs.Kinds.{is_decl}
use Rattle.rules.specs.InlineGroups.{expand}
use Rattle.rules.specs.declared.Record.{Record}
use Rattle.rules.specs.declared.Inlined.{Inlined}
use Rattle.rules.specs.declared.Target.TheVariants.{Decl}
use Rattle.group_table.specs.declared.ExpandProgress.{ExpandProgress}
use Rattle.rules.specs.declared.FieldKey.{FieldKey}

-- the first record that is not fit tells its key
unfoldable pub unfit_after : Option FieldKey → Inlined → Option FieldKey
unfit_after (Some k) x = Some k
unfit_after None x = if x.fit then None else Some (field_key x.made)

-- the progress, and the records of the buffer
pub record Output : Type 0 where
  pub progress : ExpandProgress
  pub records : List Record

abbrev pub output : ExpandProgress → List Record → Output
output a b = record { progress = a; records = b }

-- one record more
unfoldable pub added : Output → Inlined → Output
added o x =
    output (record { count = o.progress.count + 1; unfit = unfit_after o.progress.unfit x })
    (set o.records o.progress.count x.made)

unfoldable pub added_all : Output → List Inlined → Output
added_all o [] = o
added_all o (x ∷ xs) = added_all (added o x) xs

-- nothing written yet
abbrev pub empty : ExpandProgress
empty = record { count = 0; unfit = None }

-- what the declaration at d needs, with the constraints env on the stack, which has place for those of the records before it, too
pub record ExpandReady (rs : List Record) (sizes : List ℕ) (d : ℕ) (env : List ℕ) (out : List Record) (a : ExpandProgress) : Type 0 where
  pub decl : (d < length rs) × (is_decl (at rs d).kind ≡ true)
  pub spare : (e : ℕ) → e ≤ length rs → nearest (holds_at rs Decl) e ≡ Some d → length env + e ≤ 1600
  pub room : a.count + get_or sizes d 0 ≤ 1600
  pub wide : a.count + get_or sizes d 0 ≤ length out

-- and what it gives: the records behind it, inlined, are written; the stack is as it was
pub record Expanded (rs : List Record) (sizes : List ℕ) (d : ℕ) (env : List ℕ) (out : List Record) (a : ExpandProgress) (env' : List ℕ) (out' : List Record) (z : ExpandProgress) : Type 0 where
  pub made : (k : ℕ) → d < k → output z out' ≡ added_all (output a out) (expand rs k env d)
  pub kept : env' ≡ env
  pub counted : z.count ≡ a.count + get_or sizes d 0
