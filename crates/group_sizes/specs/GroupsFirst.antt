-- In the listed table every group stands before the declaration that holds a field of it.
use Rattle.std.specs.Prelude.{◌≡◌, true, List, ℕ, ◌<◌, length, Option, MatchOption}
use Rattle.rules.specs.Kinds as kind
use Rattle.rules.specs.Kinds.{is}
use Rattle.rules.specs.Table.{at}
use Rattle.rules.specs.Places.{nearest, holds_at, decl_named}
use Rattle.rules.specs.declared.Record.{Record}
use Rattle.rules.specs.declared.Target.TheVariants.{Decl}

-- both searches find something, the first at a lower place
abbrev pub FoundBefore : Option ℕ → Option ℕ → Type 0
FoundBefore f h = MatchOption f ⊥ (λ g. MatchOption h ⊥ (λ d. g < d))

abbrev pub GroupsFirst : List Record → Type 0
GroupsFirst rs =
    (p : ℕ) → p < length rs → is kind.group_field (at rs p) ≡ true → FoundBefore (decl_named rs (at rs p).second) (nearest (holds_at rs Decl) p)
