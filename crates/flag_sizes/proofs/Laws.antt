-- Laws of the entries, of the records that a place becomes, and of the whole table. Assumes nothing.
use Prim.Native.Nat.{ℕ, zero, suc, ◌+◌, ◌-◌, ◌*◌, ◌<◌, ◌≤◌}
use mathlib.Core.Path.{◌≡◌, refl}
use mathlib.Core.List.{List, [], ◌∷◌, ◌++◌}
use native.Mathlib.Omega.{arith}
use native.Mathlib.Numerals.{add-one}
use lib.Dec.{eqb}
use borrow.Author.Tests.{eq-eqb, ne_eqb}
use lib.ListN.{length, length-append}
use Rattle.std.specs.Prelude.{if◌then◌else◌}
use Rattle.rules.specs.Kinds as kind
use Rattle.rules.specs.Kinds.{is, is_decl, is_condition_or_entry}
use Rattle.rules.specs.Table.{at}
use Rattle.rules.specs.Choice.{when}
use Rattle.rules.specs.Places.{each}
use Rattle.rules.specs.DesugarFlags.{members_start, entry_of, is_condition_on, entries, entries_from, entries_of, flag_of, condition_at, entries_at, own_entries, with_entries, desugared_at, desugared}
use Rattle.rules.specs.declared.Record.{Record}
use Rattle.flag_sizes.specs.Counts.{made_at}
use Rattle.table.proofs.Laws.{left-suc, left-none, each_more, each-few, when-few, at-past}

-- ---- entries

-- those made from place q on, by what stands there
module _ (rs : List Record) (x q : ℕ) where
  pub entries-step : q < length rs
      → entries_from rs x q ≡ (if is_decl (at rs q).kind then [] else if is_condition_on rs x q then entry_of rs q ∷ entries_from rs x (q + 1) else entries_from rs x (q + 1))
  unfolding entries
  entries-step l = rw (left-suc (length rs) q l, entries)

  pub entries-end : length rs ≤ q → entries_from rs x q ≡ []
  unfolding entries
  entries-end l = rw (left-none (length rs) q l, entries)

entries-few : (rs : List Record) (x n q : ℕ) → length (entries rs x q n) ≤ n
unfolding entries
entries-few rs x zero q = omega arith
entries-few rs x (suc n) q = grind (arith, entries-few rs x n (q + 1))

pub ruleset entries_steps = (entries-step, entries-end)

pub few_entries : (rs : List Record) (x q : ℕ) → length (entries_from rs x q) ≤ length rs
few_entries rs x q = omega (arith, entries-few rs x (length rs - q) q)

pub few_made : (rs : List Record) (r : Record) (a : ℕ) → length (entries_of rs r a) ≤ length rs
few_made rs r a = grind (arith, few_entries rs r.name a)

-- the entries that stand one after another from q on
abbrev pub own_from : List Record → ℕ → List Record
own_from rs q = entries_at rs q (length rs - q)

-- past the end none stands
pub own-inside : (rs : List Record) (q : ℕ) → (at rs q).kind ≡ 12 → q < length rs
own-inside rs q k = grind (arith, at-past rs q)

pub own-step : (rs : List Record) (q : ℕ) → own_from rs q ≡ (if is kind.flag_entry (at rs q) then at rs q ∷ own_from rs (q + 1) else [])
unfolding entries_at
own-step rs q = grind (arith, at-past rs q, left-suc (length rs) q, left-none (length rs) q)

pub ruleset own_steps = (own-step, own-inside)

own-few : (rs : List Record) (n q : ℕ) → length (entries_at rs q n) ≤ n
unfolding entries_at
own-few rs zero q = omega arith
own-few rs (suc n) q = grind (arith, own-few rs n (q + 1))

pub few_own : (rs : List Record) (q : ℕ) → length (own_from rs q) ≤ length rs
few_own rs q = omega (arith, own-few rs (length rs - q) q)

-- ---- one place

pub condition_few : (rs : List Record) (p : ℕ) → length (condition_at rs p) ≤ 1
unfolding condition_at
condition_few rs p = when-few _ _

module _ (rs : List Record) (p : ℕ) where
  pub condition-none : ¬ ((at rs p).kind ≡ 11) → condition_at rs p ≡ []
  unfolding condition_at when
  condition-none k = rw (condition_at, ne_eqb _ _ k)

  pub condition-is : {r : Record} → r ≡ at rs p → r.kind ≡ 11 → condition_at rs p ≡ r ∷ []
  unfolding condition_at when
  condition-is e k = rw (condition_at, ← e, eq-eqb _ _ k)

with-cases : (rs : List Record) (p : ℕ) (r : Record) (es : List Record)
    → with_entries rs p r es ≡ (if eqb (length es) 0 then r ∷ condition_at rs (p + 1) ++ own_entries rs p else flag_of r ∷ condition_at rs (p + 1) ++ es)
unfolding with_entries
with-cases rs p r [] = refl
with-cases rs p r (e ∷ es) = grind arith

module _ (rs : List Record) (p : ℕ) where
  -- what it becomes; conditions and entries go with their field
  pub desugared-cases : desugared_at rs p
      ≡ (if is_condition_or_entry (at rs p).kind then []
      else if eqb (length (made_at rs p)) 0 then at rs p ∷ condition_at rs (p + 1) ++ own_entries rs p
      else flag_of (at rs p) ∷ condition_at rs (p + 1) ++ made_at rs p)
  unfolding desugared_at
  desugared-cases = rw (desugared_at, with-cases)

  -- and how many records these are
  pub size_cases : length (desugared_at rs p)
      ≡ (if is_condition_or_entry (at rs p).kind then 0
      else 1 + length (condition_at rs (p + 1)) + (if eqb (length (made_at rs p)) 0 then length (own_entries rs p) else length (made_at rs p)))
  size_cases = grind (arith, desugared-cases, length-append (condition_at rs (p + 1)) (made_at rs p), length-append (condition_at rs (p + 1)) (own_entries rs p))

pub ruleset size_laws = (size_cases, condition_few, few_own, few_made)

at-few : (rs : List Record) (p : ℕ) → length (desugared_at rs p) ≤ 2 + length rs
at-few rs p = grind (arith, size_cases rs p, condition_few rs (p + 1), few_made rs (at rs p) (members_start rs p), few_own rs (p + 1 + length (condition_at rs (p + 1))))

-- ---- the whole table

pub start_zero : (rs : List Record) → 0 ≡ members_start rs 0
unfolding members_start
start_zero rs = refl

pub start_next : (rs : List Record) (p : ℕ) → members_start rs (p + 1) ≡ (if is_decl (at rs p).kind then p + 1 else members_start rs p)
unfolding members_start
start_next rs p = rw (add-one p, members_start, ← add-one p)

pub start_few : (rs : List Record) (p : ℕ) → members_start rs p ≤ p
unfolding members_start
start_few rs zero = omega arith
start_few rs (suc p) = grind (arith, start_few rs p)

-- how many records the places below p become
abbrev pub size_below : List Record → ℕ → ℕ
size_below rs p = length (each (desugared_at rs) p)

pub size-zero : (rs : List Record) → 0 ≡ size_below rs 0
unfolding each
size-zero rs = refl

pub size-more : (rs : List Record) (p : ℕ) → size_below rs (p + 1) ≡ size_below rs p + length (desugared_at rs p)
size-more rs p = rw (each_more (desugared_at rs) p) (length-append (each (desugared_at rs) p) (desugared_at rs p))

pub size_few : (rs : List Record) (p : ℕ) → length rs ≤ 1600 → size_below rs p ≤ 1602 * p
size_few rs p l = each-few (desugared_at rs) 1602 p (λ i. omega (arith, at-few rs i))

pub size-all : (rs : List Record) (p : ℕ) → p ≡ length rs → size_below rs p ≡ length (desugared rs)
unfolding desugared
size-all rs p e = rw e

pub ruleset total_laws = (size-zero, size-all, few_made, start_few)
