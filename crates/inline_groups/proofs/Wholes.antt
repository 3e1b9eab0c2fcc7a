-- The records that are written, and the answer. Assumes nothing.
use Rattle.std.proofs.Common.{Option, None, Some, Result, Err}
use Prim.Native.Nat.{ℕ, suc, ◌+◌, ◌<◌, ◌≤◌}
use mathlib.Core.Path.{◌≡◌, refl, sym, ap, ◌∙◌}
use mathlib.Core.List.{List, [], ◌∷◌, ◌++◌, map, append-nil, append_assoc}
use native.Mathlib.Omega.{arith}
use native.Mathlib.Nat.{zero-add, add-zero}
use lib.ListN.{length, get_or, take, drop, set, length-set, take-append-drop}
use lib.Seq.{take-suc-set, drop-set-lt}
use Rattle.std.proofs.lemmas.Grind.{common_steps}
use Rattle.rules.specs.Table.{blank, field_key}
use Rattle.rules.specs.Places.{first}
use Rattle.rules.specs.InlineGroups.{kept, inlined, record_of, unfit_at, first_unfit}
use Rattle.rules.specs.declared.Record.{Record}
use Rattle.rules.specs.declared.Inlined.{Inlined}
use Rattle.rules.specs.declared.FieldKey.{FieldKey}
use Rattle.group_table.specs.declared.ExpandProgress.{ExpandProgress}
use Rattle.inline_groups.specs.declared.InlineError.{InlineError}
use Rattle.inline_groups.specs.declared.InlineError.TheVariants.{Swollen, BufferShort}
use Rattle.group_sizes.specs.Sizes.{total_size, Measured}
use Rattle.group_table.specs.Outputs.{Output, output, unfit_after, added, added_all, empty}
use Rattle.inline_groups.specs.Inlinings.{inlined_or_unfit, by_fit, inlining, inlining_records}
use Rattle.group_table.proofs.Totals.{inlined-size}

-- ---- the records that are written

pub length-records : (xs : List Inlined) → length (map record_of xs) ≡ length xs
length-records [] = refl
length-records (x ∷ xs) = ap suc (length-records xs)

-- the first record that is not fit tells its key
unfoldable unfit_of : Option FieldKey → List Inlined → Option FieldKey
unfit_of f [] = f
unfit_of f (x ∷ xs) = unfit_of (unfit_after f x) xs

-- the records of xs stand from place c on
added-records : (xs : List Inlined) (c : ℕ) (f : Option FieldKey) (b : List Record) → c + length xs ≤ length b
    → added_all (output (record { count = c; unfit = f }) b) xs
    ≡ output (record { count = c + length xs; unfit = unfit_of f xs }) (take c b ++ map record_of xs ++ drop (c + length xs) b)
unfolding added_all added unfit_of
added-records [] c f b h = rw (add-zero c, append-nil (take c b)) (rw (take-append-drop c b))
added-records (x ∷ xs) c f b h =
    let n : c + 1 ≡ suc c = omega arith in
    let m : suc c + length xs ≡ c + suc (length xs) = omega arith in
    added-records xs (c + 1) (unfit_after f x) (set b c x.made) (omega (arith, length-set b c x.made))
    ∙ rw (drop-set-lt (c + 1 + length xs) b c x.made (omega arith), n, take-suc-set b c x.made (omega arith), append_assoc (take c b) (x.made ∷ []) (map record_of xs), m)

-- ---- the key that is kept is that of the first that is not fit

unfit-stays : (k : FieldKey) (xs : List Inlined) → unfit_of (Some k) xs ≡ Some k
unfolding unfit_of unfit_after
unfit-stays k [] = refl
unfit-stays k (x ∷ xs) = unfit-stays k xs

-- xs is what ys has from p on
unfit-from : (ys : List Inlined) (n p : ℕ) (xs : List Inlined) → ((i : ℕ) → get_or ys (p + i) (kept blank) ≡ get_or xs i (kept blank)) → n ≡ length ys
    → by_fit n (unfit_of None xs) ≡ inlined_or_unfit ys (first (unfit_at ys) p (length xs))
unfolding unfit_of unfit_after by_fit inlined_or_unfit first
unfit-from ys n p [] h e = rw e
unfit-from ys n p (x ∷ xs) h e = more (unfit-from ys n (p + 1) xs (λ i. ap (λ (j : ℕ). get_or ys j (kept blank)) (omega arith) ∙ h (suc i)) e) (unfit-stays (field_key x.made) xs) (ap (λ (j : ℕ). get_or ys j (kept blank)) (sym (add-zero p)) ∙ h 0)
  where
    more : by_fit n (unfit_of None xs) ≡ inlined_or_unfit ys (first (unfit_at ys) (p + 1) (length xs)) → unfit_of (Some (field_key x.made)) xs ≡ Some (field_key x.made) → get_or ys p (kept blank) ≡ x
        → by_fit n (unfit_of None (x ∷ xs)) ≡ inlined_or_unfit ys (first (unfit_at ys) p (suc (length xs)))
    more r u w = grind (arith, common_steps)

first-unfit : (xs : List Inlined) → by_fit (length xs) (unfit_of None xs) ≡ inlined_or_unfit xs (first_unfit xs)
unfolding first_unfit
first-unfit xs = unfit-from xs (length xs) 0 xs (λ i. ap (λ (j : ℕ). get_or xs j (kept blank)) (zero-add i)) refl

-- ---- the answer

module _ {rs : List Record} {targets sizes : List ℕ} (y : Measured rs targets sizes) (out₀ : List Record) where
  pub ret-swollen : 1600 < total_size sizes rs (length rs) → (Err Swollen ≡ inlining (length out₀) (inlined rs)) × (out₀ ≡ inlining_records out₀ (inlined rs))
  unfolding inlining inlining_records
  ret-swollen h = let e = inlined-size y in (grind (arith, common_steps), grind (arith, common_steps))

  module _ (h : total_size sizes rs (length rs) ≤ 1600) where
    pub ret-buffer-short : length out₀ < total_size sizes rs (length rs) → (Err BufferShort ≡ inlining (length out₀) (inlined rs)) × (out₀ ≡ inlining_records out₀ (inlined rs))
    unfolding inlining inlining_records
    ret-buffer-short l = let e = inlined-size y in (grind (arith, common_steps), grind (arith, common_steps))

    pub ret-fits : total_size sizes rs (length rs) ≤ length out₀ → {out : List Record} {s : ExpandProgress} {r : Result ℕ InlineError} → output s out ≡ added_all (output empty out₀) (inlined rs) → r ≡ by_fit s.count s.unfit
        → (r ≡ inlining (length out₀) (inlined rs)) × (out ≡ inlining_records out₀ (inlined rs))
    unfolding inlining inlining_records
    ret-fits l {out} {s} {r} p e =
        let n = inlined-size y in
        let whole : output s out ≡ output (record { count = length (inlined rs); unfit = unfit_of None (inlined rs) }) (map record_of (inlined rs) ++ drop (length (inlined rs)) out₀)
        = p ∙ added-records (inlined rs) 0 None out₀ (omega arith) ∙ rw (zero-add (length (inlined rs))) in
        let a : r ≡ inlined_or_unfit (inlined rs) (first_unfit (inlined rs)) = e ∙ ap (λ (u : Output). by_fit u.progress.count u.progress.unfit) whole ∙ first-unfit (inlined rs) in
        let b = ap (λ (u : Output). u.records) whole in
        (grind (arith, common_steps), grind (arith, common_steps))
