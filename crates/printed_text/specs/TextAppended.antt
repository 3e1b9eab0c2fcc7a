-- What the contracts say: bytes appended to a text.
use Rattle.std.specs.Prelude.{ℕ, ◌+◌, ◌≡◌, List, length}
use Rattle.rules.specs.Bytes.{written}

-- the text b with s written over it from place i on, under a name that proofs need not unfold
unfoldable pub put_text : List ℕ → ℕ → List ℕ → List ℕ
put_text b i s = written b i s

-- s is written over a text from place i on; i' is the place behind it
abbrev pub TextAppended : List ℕ → ℕ → List ℕ → List ℕ → ℕ → Type 0
TextAppended b i s b' i' = (b' ≡ put_text b i s) × (i' ≡ i + length s)

-- s is written over the start of a text, and n is its length
abbrev pub TextBegins : List ℕ → List ℕ → List ℕ → ℕ → Type 0
TextBegins b s b' n = (b' ≡ written b 0 s) × (n ≡ length s)
