-- The bytes of listed declarations, and the loop that copies them. Assumes nothing.
use Rattle.std.proofs.Common.{take_all, drop-drop}
use Rattle.std.proofs.lemmas.Grind.{common_steps}
use mathlib.Core.Path.{◌≡◌, refl, ◌∙◌, ap, subst}
use mathlib.Core.List.Memᴰ
use mathlib.Core.List.{List, [], ◌∷◌, ◌++◌, append-nil, Memᴰ}
use Prim.Native.Nat.{ℕ, ◌+◌, ◌-◌, ◌*◌, ◌<◌, ◌≤◌}
use native.Mathlib.Omega.{arith}
use lib.ListN.{length, get_or, take, drop, length-append, take-append-drop}
use Rattle.rules.specs.Bytes.{written}
use Rattle.rules.specs.Table.{decode}
use Rattle.rules.specs.Places.{member_count}
use Rattle.rules.specs.DeclIdentifiers.{all_records}
use Rattle.rules.specs.declared.Record.{Record}
use Rattle.decl_order.specs.Contract.{Placed}
use Rattle.decl_order.specs.Bytes.{decl_bytes, all_bytes, BytesPlaced}
use Rattle.decl_order.proofs.Copies.{Copied, decl-length, place_at, copy-fits, copy-turn, copy-end}
use Rattle.decl_order.proofs.ListedBytes.{place_in, bytes-length}

pub all_bytes-append : (t l k : List ℕ) → all_bytes t (l ++ k) ≡ all_bytes t l ++ all_bytes t k
unfolding all_bytes
all_bytes-append t [] k = refl
all_bytes-append t (x ∷ l) k = grind (arith, common_steps, all_bytes-append t l k)

pub bytes-snoc : (t l : List ℕ) (d : ℕ) → all_bytes t (l ++ d ∷ []) ≡ all_bytes t l ++ decl_bytes t d
unfolding all_bytes
bytes-snoc t l d = all_bytes-append t l (d ∷ []) ∙ ap (λ (y : List ℕ). all_bytes t l ++ y) (append-nil (decl_bytes t d))

pub all-length : (t l : List ℕ) → ((d : ℕ) → Memᴰ d l → d < length (decode t)) → length (all_bytes t l) ≡ 40 * length (all_records (decode t) l)
unfolding all_bytes all_records
all-length t [] h = refl
all-length t (d ∷ l) h =
    let i = h d (Memᴰ.head refl) in
    grind (arith, common_steps, bytes-length t d i, decl-length (decode t) d i, all-length t l (λ e m. h e (Memᴰ.tail m)))

-- the bytes of the declarations at the first i places are copied
pub record BytesCopied (t places out₀ out : List ℕ) (count i : ℕ) : Type 0 where
  pub counted : count ≡ length (all_records (decode t) (take i places))
  pub made : out ≡ all_bytes t (take i places) ++ drop (40 * count) out₀

pub bytes_start : (t places out : List ℕ) → BytesCopied t places out out 0 0
unfolding all_bytes all_records
bytes_start t places out = record { counted = refl; made = refl }

module _ (t places out₀ : List ℕ) (h : BytesPlaced (decode t) places out₀) where
  -- the records alone are placed in a buffer of their own length
  alone : Placed (decode t) places (all_records (decode t) places)
  alone = record { within = h.within; fits = omega arith }

  pub bytes_place : {i d : ℕ} → d ≡ get_or places i 0 → i < length places → d < length (decode t)
  bytes_place e l = place_at _ _ _ alone e l

  within-at : (i d : ℕ) → Memᴰ d (take i places) → d < length (decode t)
  within-at i d m = h.within d (subst (λ (x : List ℕ). Memᴰ d x) (take-append-drop i places) (Memᴰ.append_left (drop i places) m))

  module _ {out : List ℕ} {count i : ℕ} (c : BytesCopied t places out₀ out count i) where
    of_records : Copied (decode t) places (all_records (decode t) places) (all_records (decode t) (take i places) ++ drop count (all_records (decode t) places)) count i
    of_records = record { counted = c.counted; made = refl }

    front : length (all_bytes t (take i places)) ≡ 40 * count
    front = all-length t (take i places) (within-at i) ∙ omega (arith, c.counted)

    pub bytes-end : length places ≤ i → (count ≡ length (all_records (decode t) places)) × (out ≡ written out₀ 0 (all_bytes t places))
    bytes-end l = let z = take_all i places l in (rw z at c.counted, grind (arith, common_steps, c.made, front, z))

    module _ (l : i < length places) {d m : ℕ} (de : d ≡ get_or places i 0) (me : m ≡ member_count (decode t) d) where
      pub bytes-fit : 40 * (count + (1 + m)) ≤ length out₀
      bytes-fit = omega (arith, copy-fits _ _ _ alone of_records l de me, h.fits)

      pub bytes-in : 40 * (d + (1 + m)) ≤ length t
      bytes-in = omega (arith, place_in t d (bytes_place de l), me)

      pub bytes-turn : {part out' : List ℕ} → part ≡ take (40 * (d + (1 + m)) - 40 * d) (drop (40 * d) t)
          → out' ≡ take (40 * count) out ++ (part ++ drop (40 * (count + (1 + m)) - 40 * count) (drop (40 * count) out)) → BytesCopied t places out₀ out' (count + (1 + m)) (i + 1)
      unfolding decl_bytes
      bytes-turn e o =
          let j : 40 * (d + (1 + m)) - 40 * d ≡ 40 * (1 + m) = omega arith in
          let k : 40 * (count + (1 + m)) - 40 * count ≡ 40 * (1 + m) = omega arith in
          record {
            counted = (copy-turn _ _ _ alone of_records l de me refl refl refl).counted;
            made = o ∙ grind (arith, common_steps, e, j, k, c.made, front, bytes-snoc t (take i places) d, drop-drop {A = ℕ});
          }
