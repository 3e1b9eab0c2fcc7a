-- The records of a declaration, those of listed declarations, and the loop that copies them. Assumes nothing.
use Rattle.std.proofs.Common.{take_all, drop-drop}
use Rattle.std.proofs.lemmas.List.{set_at, take_more, drop_more}
use Rattle.std.proofs.lemmas.Grind.{common_steps}
use mathlib.Core.Path.{◌≡◌, refl, ◌∙◌, ap}
use mathlib.Core.List.{List, [], ◌∷◌, ◌++◌, append-nil, append_assoc}
use Prim.Native.Nat.{ℕ, ◌+◌, ◌<◌, ◌≤◌}
use native.Mathlib.Omega.{arith}
use lib.ListN.{length, get_or, set, take, drop, length-append, length-drop, take-append-drop}
use lib.Seq.{length-take-le}
use Rattle.rules.specs.Places.{member_count}
use Rattle.rules.specs.DeclIdentifiers.{decl_records, all_records}
use Rattle.rules.specs.declared.Record.{Record}
use Rattle.search.proofs.members.Laws.{members-in}
use Rattle.decl_order.specs.Contract.{Placed}
use Rattle.decl_order.proofs.Topological.{mem-at}

-- ---- the records of a declaration

module _ (rs : List Record) (d : ℕ) where
  pub count_fits : d < length rs → d + (1 + member_count rs d) ≤ length rs
  count_fits l = omega (arith, members-in rs d l)

  pub decl-length : d < length rs → length (decl_records rs d) ≡ 1 + member_count rs d
  unfolding decl_records
  decl-length l = length-take-le (1 + member_count rs d) (drop d rs) (omega (arith, count_fits l, length-drop d rs))

-- ---- the records of listed declarations

pub all_records-append : (rs : List Record) (l k : List ℕ) → all_records rs (l ++ k) ≡ all_records rs l ++ all_records rs k
unfolding all_records
all_records-append rs [] k = refl
all_records-append rs (x ∷ l) k = grind (arith, common_steps, all_records-append rs l k)

pub records-snoc : (rs : List Record) (l : List ℕ) (d : ℕ) → all_records rs (l ++ d ∷ []) ≡ all_records rs l ++ decl_records rs d
unfolding all_records
records-snoc rs l d = all_records-append rs l (d ∷ []) ∙ ap (λ (y : List Record). all_records rs l ++ y) (append-nil (decl_records rs d))

-- ---- the loops that copy

-- one record more is copied
pub copied-more : (rs out : List Record) (i : ℕ) (d : Record) → i < length rs → length rs ≤ length out
    → set (take i rs ++ drop i out) i (get_or rs i d) ≡ take (i + 1) rs ++ drop (i + 1) out
copied-more rs out i d l f =
    let at = set_at (take i rs) (get_or out i d) (drop (i + 1) out) (get_or rs i d) i (length-take-le i rs (omega arith)) in
    rw (drop_more out i d (omega arith), take_more rs i d l, append_assoc) at

-- the declarations at the first i places are copied
pub record Copied (rs : List Record) (places : List ℕ) (out₀ out : List Record) (count i : ℕ) : Type 0 where
  pub counted : count ≡ length (all_records rs (take i places))
  pub made : out ≡ all_records rs (take i places) ++ drop count out₀

pub copy_start : (rs : List Record) (places : List ℕ) (out : List Record) → Copied rs places out out 0 0
unfolding all_records
copy_start rs places out = record { counted = refl; made = refl }

module _ (rs : List Record) (places : List ℕ) (out₀ : List Record) (h : Placed rs places out₀) where
  pub place_at : {i d : ℕ} → d ≡ get_or places i 0 → i < length places → d < length rs
  place_at {i} e l = rw e (h.within (get_or places i 0) (mem-at places i l))

  -- the records so far fit
  fits-at : (i : ℕ) → length (all_records rs (take i places)) ≤ length out₀
  fits-at i =
      let z = ap length (all_records-append rs (take i places) (drop i places)) in
      let w = h.fits in
      omega (arith, rw take-append-drop at z, length-append {A = Record})

  module _ {out : List Record} {count i : ℕ} (c : Copied rs places out₀ out count i) (l : i < length places) {d m : ℕ} (de : d ≡ get_or places i 0) (me : m ≡ member_count rs d) where
    next : all_records rs (take (i + 1) places) ≡ all_records rs (take i places) ++ decl_records rs d
    next = grind (arith, common_steps, records-snoc rs (take i places) d)

    next-count : count + (1 + m) ≡ length (all_records rs (take (i + 1) places))
    next-count = grind (arith, common_steps, next, decl-length rs d (place_at de l), c.counted)

    pub copy-fits : count + (1 + m) ≤ length out₀
    copy-fits = rw next-count (fits-at (i + 1))

    pub copy-turn : {j k : ℕ} {part : List Record} → part ≡ take j (drop d rs) → j ≡ 1 + m → k ≡ 1 + m
        → Copied rs places out₀ (take count out ++ (part ++ drop k (drop count out))) (count + (1 + m)) (i + 1)
    unfolding decl_records
    copy-turn {j} {k} {part} e je ke = record {
      counted = next-count;
      made = grind (arith, common_steps, c.made, c.counted, next, drop-drop {A = Record});
    }

  pub copy-end : {out : List Record} {count i : ℕ} → Copied rs places out₀ out count i → length places ≤ i → (count ≡ length (all_records rs places)) × (out ≡ all_records rs places ++ drop count out₀)
  copy-end {i = i} c l = let z = take_all i places l in (rw z at c.counted, rw z at c.made)
