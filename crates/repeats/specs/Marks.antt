-- Names and values that no record of a declaration may repeat, and marks that say where none does.
use Rattle.std.specs.Prelude.{ℕ, ◌%◌, ◌≡◌, List, Bool, true, false, get_or, eqb}
use Rattle.rules.specs.Kinds as kind
use Rattle.rules.specs.Kinds.{is_named_field, is_tag, is_value, is_size_or_count}
use Rattle.rules.specs.Table.{at}
use Rattle.rules.specs.Places.{nearest, holds_at, found_inside}
use Rattle.rules.specs.declared.Record.{Record}
use Rattle.rules.specs.declared.Target.{Target}
use Rattle.rules.specs.declared.Target.TheVariants.{NameOrDecl, TagOrDecl, ValueOrDecl, SizeOrDecl, ElementSizeOrDecl}
use Rattle.repeats.specs.declared.marks.Compared.{Compared}
use Rattle.repeats.specs.declared.marks.Compared.TheVariants.{FieldNames, TagNames, TagValues, Sizes, ElementSizes}

-- the kinds of records that have what is compared
abbrev pub selects : Compared → ℕ → Bool
selects FieldNames k = is_named_field k
selects TagNames k = is_tag k
selects TagValues k = is_value k
selects Sizes k = is_size_or_count k
selects ElementSizes k = eqb k kind.element_size

abbrev pub compared_of : Compared → Record → ℕ
compared_of FieldNames r = r.name
compared_of TagNames r = r.name
compared_of TagValues r = r.one
compared_of Sizes r = r.second
compared_of ElementSizes r = r.second

-- what a search for the name or value n looks for
abbrev pub target_of : Compared → ℕ → Target
target_of FieldNames n = NameOrDecl n
target_of TagNames n = TagOrDecl n
target_of TagValues n = ValueOrDecl n
target_of Sizes n = SizeOrDecl n
target_of ElementSizes n = ElementSizeOrDecl n

-- an earlier record of the declaration that p stands in has the name or value n
unfoldable pub has_earlier : List Record → Compared → ℕ → ℕ → Bool
has_earlier rs what n p = found_inside rs (nearest (holds_at rs (target_of what n)) p)

-- where the mark is false no earlier record of the declaration has the same name or value; past the marks it counts as true
pub record Marked (rs : List Record) (what : Compared) (marks : List Bool) : Type 0 where
  pub clear : (p : ℕ) → get_or marks p true ≡ false → has_earlier rs what (compared_of what (at rs p)) p ≡ false

-- each name or value that an earlier record has left its stamp
pub record Stamped (rs : List Record) (what : Compared) (seen : List ℕ) (stamp p : ℕ) : Type 0 where
  pub known : (n : ℕ) → has_earlier rs what n p ≡ true → get_or seen (n % 4093) 0 ≡ stamp
