-- Where the search for what a Size, Count or ElementSize names may start.
use Rattle.std.specs.Prelude.{ℕ, ◌%◌, ◌<◌, ◌≤◌, ◌≡◌, List, false, length, get_or, ltb, if◌then◌else◌}
use Rattle.rules.specs.Kinds as kind
use Rattle.rules.specs.Kinds.{is, is_decl}
use Rattle.rules.specs.Table.{at, payload_name, body_name}
use Rattle.rules.specs.Places.{first_from, first_within}
use Rattle.rules.specs.SizeFields.{matching}
use Rattle.rules.specs.declared.Record.{Record}
use Rattle.rules.specs.declared.Target.{Target}

-- what the search for what the record at p names looks for
abbrev pub target_at : List Record → ℕ → Target
target_at rs p = matching (at rs p).kind (at rs p).second

-- where the search for what the record at p names may start; it is not known past the places, nor where 65535 stands
pub record SizeStarts (rs : List Record) (places : List ℕ) : Type 0 where
  pub skips : (p : ℕ) → (get_or places p 65535 ≡ 65535 → ⊥) → first_within rs (target_at rs p) p ≡ first_from rs (target_at rs p) (get_or places p 65535)

-- the only name by which a size can mean the record
abbrev pub name_of : Record → ℕ
name_of r = if is kind.payload r then payload_name else if is kind.body r then body_name else r.name

-- the start for a name: the place kept for its remainder, or the next declaration at e if that stands first
abbrev pub start_for : List ℕ → ℕ → ℕ → ℕ
start_for last e x = if ltb (get_or last (x % 4093) 65535) e then get_or last (x % 4093) 65535 else e

-- the places kept for the searches from k on: no match stands before the start, no place kept stands before k,
-- and e is the next declaration from k on, or the end of the table
pub record KeptPlaces (rs : List Record) (last : List ℕ) (e k : ℕ) : Type 0 where
  pub skips : (j x : ℕ) → first_from rs (matching j x) k ≡ first_from rs (matching j x) (start_for last e x)
  pub entries : (h : ℕ) → k ≤ get_or last h 65535
  pub members : (i : ℕ) → k ≤ i → i < e → is_decl (at rs i).kind ≡ false
  pub ends : (k ≤ e) × (e ≤ length rs)
