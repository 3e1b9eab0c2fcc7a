-- The visits as a search of a graph: which declarations reach which, and what a list in topological order is.
use mathlib.Core.Path.{◌≡◌}
use mathlib.Core.List.{List, Memᴰ}
use Prim.Native.Nat.{ℕ, ◌<◌}
use lib.ListN.{length, get_or}
use Rattle.rules.specs.declared.Reference.{Reference}
use Rattle.rules.specs.declared.Reference.TheVariants.{Wrong, Follow}

-- one or more followed references lead from d to e
pub data Reaches (f : ℕ → List Reference) : ℕ → ℕ → Type 0 where
  one : {d e : ℕ} → Memᴰ (Follow e) (f d) → Reaches f d e
  step : {d x e : ℕ} → Memᴰ (Follow x) (f d) → Reaches f x e → Reaches f d e

-- l lists each declaration that the roots name once and nothing else, each after all that it follows
pub record TopologicalOrder (f : ℕ → List Reference) (roots : List Reference) (l : List ℕ) : Type 0 where
  pub each : (d : ℕ) → Memᴰ (Follow d) roots → Memᴰ d l
  pub only : (d : ℕ) → Memᴰ d l → Memᴰ (Follow d) roots
  pub once : (i j : ℕ) → i < length l → j < length l → get_or l i 0 ≡ get_or l j 0 → i ≡ j
  pub after : (i e : ℕ) → i < length l → Memᴰ (Follow e) (f (get_or l i 0)) → (j : ℕ) × (j < i) × (get_or l j 0 ≡ e)

-- no root and no reference of a declaration is a fault, and no declaration reaches itself
pub record Faultless (f : ℕ → List Reference) (roots : List Reference) : Type 0 where
  pub right-roots : (c p : ℕ) → Memᴰ (Wrong c p) roots → ⊥
  pub right : (d : ℕ) → Memᴰ (Follow d) roots → (c p : ℕ) → Memᴰ (Wrong c p) (f d) → ⊥
  pub acyclic : (d : ℕ) → Memᴰ (Follow d) roots → Reaches f d d → ⊥
