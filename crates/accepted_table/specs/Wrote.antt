-- What the contracts say: what comes of writing the table with one buffer.
use Rattle.std.specs.Prelude.{ℕ, ◌<◌, ◌≡◌, List, Option, None, Some}
use Rattle.rules.specs.InlineGroups.{inlined}
use Rattle.rules.specs.Replies.{answered, by_size}
use Rattle.rules.specs.declared.Record.{Record}
use Rattle.rules.specs.declared.Reply.{Reply}

-- what writing the table t gives with room for m records: the rows from Swollen on, for any fault buffer, or t unchanged and m too small
unfoldable pub Wrote : ℕ → List Record → List ℕ → List ℕ → Option Reply → Type 0
Wrote m rs t t' (Some r) = (f : List ℕ) → answered r t' f ≡ by_size (inlined rs) t f
Wrote m rs t t' None = (t' ≡ t) × (m < 1600)
