-- Laws of the marks: what a place adds to the names and values that were seen. Assumes nothing.
use Prim.Native.Nat.{ℕ, ◌+◌, ◌%◌, ◌<◌}
use mathlib.Core.Path.{◌≡◌, refl, sym, ◌∙◌}
use mathlib.Core.List.{List}
use mathlib.Core.Bool.{Bool, true, false, ◌&&◌, ◌||◌}
use native.Mathlib.Omega.{arith}
use Rattle.std.proofs.lemmas.Grind.{common_steps}
use native.Mathlib.Numerals.{add-one}
use lib.Dec.{eqb}
use Rattle.std.specs.Prelude.{if◌then◌else◌}
use lib.ListN.{length, get_or, set, replicate}
use Rattle.rules.specs.Kinds.{is_decl}
use Rattle.rules.specs.Table.{at}
use Rattle.rules.specs.Places.{nearest, holds, found_inside}
use Rattle.rules.specs.declared.Record.{Record}
use Rattle.table.proofs.Searches.{false-true}
use Rattle.repeats.specs.Marks.{selects, compared_of, target_of, has_earlier, Marked, Stamped}
use Rattle.repeats.specs.declared.marks.Compared.{Compared}
use Rattle.repeats.specs.declared.marks.Compared.TheVariants.{FieldNames, TagNames, TagValues, Sizes, ElementSizes}

-- a record that has a name or value to compare is no declaration
selected-not-decl : (what : Compared) (k : ℕ) → selects what k ≡ true → is_decl k ≡ false
selected-not-decl FieldNames k e = grind (arith, common_steps)
selected-not-decl TagNames k e = grind (arith, common_steps)
selected-not-decl TagValues k e = grind (arith, common_steps)
selected-not-decl Sizes k e = grind (arith, common_steps)
selected-not-decl ElementSizes k e = grind (arith, common_steps)

-- a search for a name or value stops at a declaration and at each record that has it
holds_as : (what : Compared) (n : ℕ) (r : Record) → holds (target_of what n) r ≡ (is_decl r.kind || (selects what r.kind && eqb (compared_of what r) n))
holds_as FieldNames n r = refl
holds_as TagNames n r = refl
holds_as TagValues n r = refl
holds_as Sizes n r = refl
holds_as ElementSizes n r = refl

-- what a place adds to a search
earlier-next : (rs : List Record) (what : Compared) (p n : ℕ)
    → has_earlier rs what n (p + 1) ≡ (if is_decl (at rs p).kind then false else if selects what (at rs p).kind && eqb (compared_of what (at rs p)) n then true else has_earlier rs what n p)
unfolding has_earlier nearest found_inside
earlier-next rs what p n = let e = holds_as what n (at rs p) in let d = selected-not-decl what (at rs p).kind in rw (add-one, nearest) (grind (arith, common_steps))

-- before the first place
pub stamped-start : (rs : List Record) (what : Compared) (seen : List ℕ) (stamp : ℕ) → Stamped rs what seen stamp 0
unfolding has_earlier nearest found_inside
stamped-start rs what seen stamp = record { known = λ n e. false-true e }

-- a declaration, a record without a name or value to compare, and one with it, at p
module _ (rs : List Record) (what : Compared) (p : ℕ) (seen : List ℕ) (stamp : ℕ) where
  pub stamped-decl : is_decl (at rs p).kind ≡ true → Stamped rs what seen stamp (p + 1)
  stamped-decl d = record { known = λ n e. let z = earlier-next rs what p n in grind (arith, common_steps) }

  pub stamped-other : Stamped rs what seen stamp p → is_decl (at rs p).kind ≡ false → selects what (at rs p).kind ≡ false → Stamped rs what seen stamp (p + 1)
  stamped-other s d e = record { known = λ n h. let z = earlier-next rs what p n in let k = s.known n in grind (arith, common_steps) }

  pub stamped-one : (seen' : List ℕ) → Stamped rs what seen stamp p → selects what (at rs p).kind ≡ true
      → get_or seen' (compared_of what (at rs p) % 4093) 0 ≡ stamp → ((j : ℕ) → get_or seen j 0 ≡ stamp → get_or seen' j 0 ≡ stamp) → Stamped rs what seen' stamp (p + 1)
  stamped-one seen' s e here kept = record { known = λ n h. let z = earlier-next rs what p n in let k = s.known n in let m = kept (n % 4093) in let d = selected-not-decl what (at rs p).kind e in grind (arith, common_steps) }

  -- a name or value that left no stamp is new
  pub new-value : Stamped rs what seen stamp p → (get_or seen (compared_of what (at rs p) % 4093) 0 ≡ stamp → ⊥) → has_earlier rs what (compared_of what (at rs p)) p ≡ false
  new-value s h = let z = s.known (compared_of what (at rs p)) in grind (arith, common_steps)

-- what stood there stays, or was written
pub set-kept : (l : List ℕ) (i j x : ℕ) → i < length l → get_or l j 0 ≡ x → get_or (set l i x) j 0 ≡ x
set-kept l i j x h e = grind (arith, common_steps)

-- a mark less
pub marked-one : (rs : List Record) (what : Compared) (marks : List Bool) (p : ℕ) → Marked rs what marks → has_earlier rs what (compared_of what (at rs p)) p ≡ false → Marked rs what (set marks p false)
marked-one rs what marks p m h = record { clear = λ q e. let z = m.clear q in grind (arith, common_steps) }

-- all marks say nothing
true-everywhere : (n p : ℕ) → get_or (replicate n true) p true ≡ true
true-everywhere n p = grind (arith, common_steps)

pub marked-all : (rs : List Record) (what : Compared) (n : ℕ) → Marked rs what (replicate n true)
marked-all rs what n = record { clear = λ p e. false-true (sym e ∙ true-everywhere n p) }
