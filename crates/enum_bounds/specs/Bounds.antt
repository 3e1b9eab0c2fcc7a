-- The bounds of an enum's ranges, and how many of the ranges hold a value.
use Rattle.std.specs.Prelude.{ℕ, ◌≤◌, ◌≡◌, List, map, ◌&&◌, length, leb, count_by}
use Rattle.std.specs.List.{zip}
use Rattle.rules.specs.Table.{at}
use Rattle.rules.specs.Sorts.{sorted}
use Rattle.rules.specs.EnumDeclarations.{lesser, greater, ranges, before_at}
use Rattle.rules.specs.declared.Record.{Record}

-- how many ranges of these lesser and greater bounds hold v
abbrev pub holders : ℕ → List ℕ → List ℕ → ℕ
holders v lows highs = count_by (λ b. leb b.0 v && leb v b.1) (zip lows highs)

-- the bounds of ranges at some places
abbrev pub lows_of : List Record → List ℕ → List ℕ
lows_of rs qs = map (λ q. lesser (at rs q)) qs

abbrev pub highs_of : List Record → List ℕ → List ℕ
highs_of rs qs = map (λ q. greater (at rs q)) qs

-- the lists are the bounds of the sorted ranges of the enum at d, which has n tags
pub record Bounds (rs : List Record) (d n : ℕ) (lows highs : List ℕ) : Type 0 where
  pub few : length lows ≤ n
  pub low : lows ≡ lows_of rs (sorted (before_at rs) (ranges rs d n))
  pub high : highs ≡ highs_of rs (sorted (before_at rs) (ranges rs d n))
