-- `pdl::pdl_analyze` meets its contract: the analyzer's reply as numbers, beside its bytes. Assumes nothing.
use mathlib.Core.Path.{◌≡◌, ap, ◌∙◌}
use mathlib.Core.List.{List}
use Prim.Native.Nat.{ℕ}
use Rattle.rules.specs.Replies.{Answer, numbered, answered}
use Rattle.rules.specs.declared.Reply.{Reply}
use Rattle.pdl.specs.Numbers.{header_numbers}
use Rattle.pdl.specs.Outputs.{outputs, header_answer}
use Rattle.pdl.proofs.pdl_analyze.Goals as goal

told : (r : Reply) (t f : List ℕ) {n : List ℕ} {a : Answer} → n ≡ header_numbers (numbered r) → answered r t f ≡ a → outputs n t f ≡ header_answer a
told r t f e h = ap (λ (m : List ℕ). outputs m t f) e ∙ ap header_answer h

pub returns : goal.returns
returns c = told c.analyze.result _ _ c.header_numbers.ensures c.analyze.ensures
