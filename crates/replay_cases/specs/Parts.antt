-- The numbers of the parts.
use Rattle.std.specs.Prelude.{ℕ, ◌<◌, ◌≡◌, Result, MatchResult}
use Rattle.replay_cases.specs.declared.part.Part.{Part}
use Rattle.replay_cases.specs.declared.part.Part.TheVariants.{Layout, Scope, Order, Checks, Whole}
use Rattle.replay_cases.specs.declared.part.UnknownPart.{UnknownPart}

abbrev pub number_of : Part → ℕ
number_of Layout = 1
number_of Scope = 2
number_of Order = 3
number_of Checks = 4
number_of Whole = 5

-- the result is the part of this number, or an error if no part has it
abbrev pub Numbered : ℕ → Result Part UnknownPart → Type 0
Numbered n r = MatchResult r (λ p. number_of p ≡ n) (λ e. 0 < n → 5 < n)
