-- What is printed is the answer. Assumes nothing.
use Prim.Native.Nat.{ℕ}
use mathlib.Core.Path.{◌≡◌, sym, subst}
use mathlib.Core.List.{List}
use lib.ListN.{length}
use Rattle.rules.specs.Bytes.{written}
use Rattle.rules.specs.Replies.{answered, answer}
use Rattle.rules.specs.Printed.{printed}
use Rattle.rules.specs.declared.Reply.{Reply}
use Rattle.printed.specs.Whole.{Whole}
use Rattle.printed.proofs.Answers.{answer-whole}

pub whole-answer : (i t f : List ℕ) (r : Reply) {t' f' : List ℕ} → answered r t' f' ≡ answer i t f → Whole (answered r t' f')
whole-answer i t f r e = subst Whole (sym e) (answer-whole i t f)

pub text-answer : (i t f : List ℕ) (r : Reply) (x : List ℕ) {t' f' y : List ℕ} {n : ℕ} → answered r t' f' ≡ answer i t f
    → (y ≡ written x 0 (printed (answered r t' f'))) × (n ≡ length (printed (answered r t' f')))
    → (y ≡ written x 0 (printed (answer i t f))) × (n ≡ length (printed (answer i t f)))
text-answer i t f r x e h = rw (← e) h
