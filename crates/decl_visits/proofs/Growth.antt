-- What a visit leaves unvisited, and how far the list and the faults can grow by it. Assumes nothing.
use Rattle.std.proofs.lemmas.Grind.{common_steps}
use Rattle.std.proofs.lemmas.List.{set_past}
use Rattle.std.proofs.lemmas.List.Sums.{sum_by-set}
use mathlib.Core.Path.{◌≡◌, refl}
use mathlib.Core.Bool.{true, false, cond}
use mathlib.Core.List.{List, [], ◌∷◌}
use Prim.Native.Nat.{ℕ, zero, suc, ◌+◌, ◌*◌, ◌-◌, ◌<◌, ◌≤◌, zero-le}
use native.Mathlib.Omega.{arith}
use lib.Dec.{eqb}
use lib.ListN.{length, get_or, set, replicate, length-append}
use Rattle.rules.specs.declared.Reference.{Reference}
use Rattle.rules.specs.declared.Reference.TheVariants.{Nowhere, Wrong, Follow}
use Rattle.rules.specs.Visits.{State, opened, resolve, walk, enter, visit}
use Rattle.rules.specs.Kinds.{is_decl}
use Rattle.rules.specs.Table.{at}
use Rattle.rules.specs.DeclIdentifiers.{field_reference, field_references, references}
use Rattle.rules.specs.declared.Record.{Record}
use Rattle.decl_visits.specs.Contract.{unvisited_count}

-- a mark set to anything but 0 leaves no more places unvisited
pub unvisited-set : (l : List ℕ) (d v : ℕ) → unvisited_count (set l d (suc v)) ≤ unvisited_count l
unfolding unvisited_count
unvisited-set l d v = grind (arith, common_steps, sum_by-set (λ (m : ℕ). cond (eqb m 0) 1 0) l d (suc v) 2, set_past l d (suc v))

-- a place that is opened is one unvisited place less
pub unvisited-opened : (l : List ℕ) (d : ℕ) → get_or l d 2 ≡ 0 → unvisited_count l ≡ suc (unvisited_count (set l d 1))
unfolding unvisited_count
unvisited-opened l d e = grind (arith, common_steps, sum_by-set {X = ℕ})

pub unvisited-all : (n : ℕ) → unvisited_count (replicate n 0) ≡ n
unfolding unvisited_count
unvisited-all zero = refl
unvisited-all (suc n) = grind (arith, common_steps, unvisited-all n)

-- from s to s' no place becomes unvisited; the list grows by no more than the unvisited places fall; the
-- faults by x, and 2048 for each place that falls
pub record Growth (s s' : State) (x : ℕ) : Type 0 where
  pub falls : unvisited_count s'.marks ≤ unvisited_count s.marks
  pub size : length s'.marks ≡ length s.marks
  pub room : length s'.order + unvisited_count s'.marks ≤ length s.order + unvisited_count s.marks
  pub spare : length s'.faults + unvisited_count s'.marks * 2048 ≤ length s.faults + unvisited_count s.marks * 2048 + x

pub resolve-growth : (v : ℕ → State → State) → ((d : ℕ) (s : State) → Growth s (v d s) 1) → (r : Reference) (s : State) → Growth s (resolve v r s) 1
resolve-growth v h Nowhere s = grind (arith, common_steps)
resolve-growth v h (Wrong c p) s = grind (arith, common_steps)
resolve-growth v h (Follow e) s = h e s

pub walk-growth : (v : ℕ → State → State) → ((d : ℕ) (s : State) → Growth s (v d s) 1) → (l : List Reference) (s : State) → Growth s (walk v l s) (length l)
unfolding walk
walk-growth v h [] s = grind (arith, common_steps)
walk-growth v h (a ∷ l) s = grind (arith, common_steps, resolve-growth v h a s, walk-growth v h l (resolve v a s))

pub visit-growth : (f : ℕ → List Reference) → ((d : ℕ) → length (f d) < 2048) → (k d : ℕ) (s : State) → Growth s (visit k f d s) 1
unfolding visit enter
visit-growth f short zero d s = grind (arith, common_steps)
visit-growth f short (suc k) d s =
    let w = walk-growth (visit k f) (visit-growth f short k) (f d) (opened d s) in
    grind (arith, common_steps, unvisited-opened s.marks d, w, unvisited-set (walk (visit k f) (f d) (opened d s)).marks d 1, short d)

-- one step of the fields
pub fields-cons : (rs : List Record) (p j : ℕ) → is_decl (at rs p).kind ≡ false → field_references rs p (suc j) ≡ field_reference rs p ∷ field_references rs (p + 1) j
unfolding field_references
fields-cons rs p j e = rw (field_references, e)

pub fields-one : (rs : List Record) (p : ℕ) → p < length rs → is_decl (at rs p).kind ≡ false → field_references rs p (length rs - p) ≡ field_reference rs p ∷ field_references rs (p + 1) (length rs - (p + 1))
fields-one rs p l e = let z : length rs - p ≡ suc (length rs - (p + 1)) = omega arith in rw z (fields-cons rs p (length rs - (p + 1)) e)

pub fields-decl : (rs : List Record) (p j : ℕ) → is_decl (at rs p).kind ≡ true → field_references rs p j ≡ []
unfolding field_references
fields-decl rs p zero e = refl
fields-decl rs p (suc j) e = rw (field_references, e)

pub fields-past : (rs : List Record) (p : ℕ) → length rs ≤ p → field_references rs p (length rs - p) ≡ []
unfolding field_references
fields-past rs p l = let z : length rs - p ≡ 0 = omega arith in rw z

-- the fields among j places have at most j references
pub fields-length : (rs : List Record) (p j : ℕ) → length (field_references rs p j) ≤ j
unfolding field_references
fields-length rs p zero = zero-le
fields-length rs p (suc j) = grind (arith, common_steps, fields-length rs (p + 1) j)

pub references-length : (rs : List Record) (d : ℕ) → length rs ≤ 1600 → length (references rs d) < 2048
unfolding references
references-length rs d h = let z = fields-length rs (d + 1) (length rs - (d + 1)) in simp length-append (omega arith)
