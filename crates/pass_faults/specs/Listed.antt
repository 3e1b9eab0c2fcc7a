-- What a search at each place of a table finds, at most two faults a place.
use Rattle.std.specs.Prelude.{ℕ, ◌/◌, ◌%◌, ◌^◌, ◌≡◌, List, [], ◌++◌, Bool, false, eqb, Option}
use Rattle.std.specs.Option.{option_to_list}
use Rattle.rules.specs.Table.{at}
use Rattle.rules.specs.declared.Record.{Record}
use Rattle.rules.specs.declared.Fault.{Fault}

-- whether the bit of kind k is set in a number of 64 bits; kinds whose remainders by 64 are the same share a bit
unfoldable pub is_among : ℕ → ℕ → Bool
is_among kinds k = eqb (kinds / 2 ^ (k % 64) % 2) 1

-- at each place any two that may be found there are what is listed, and nothing is listed where the record is of no kind among these
pub record Lists (may_find : ℕ → Option Fault × Option Fault → Type 0) (rs : List Record) (kinds : ℕ) (listed : ℕ → List Fault) : Type 0 where
  pub found : (p : ℕ) (r : Option Fault × Option Fault) → may_find p r → option_to_list r.0 ++ option_to_list r.1 ≡ listed p
  pub passed : (p : ℕ) → is_among kinds (at rs p).kind ≡ false → listed p ≡ []
