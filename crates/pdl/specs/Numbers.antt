-- The numbers of the C header: a reply as its row in the table of replies and two values.
use Rattle.std.specs.Prelude.{ℕ, List, [], ◌∷◌, get_or}
use Rattle.rules.specs.Replies.{Numbered}

-- the row, 1 to 10 from the top, then the first and the second value; 0 where the row has none
unfoldable pub header_numbers : Numbered → List ℕ
header_numbers n = n.row ∷ get_or n.values 0 0 ∷ get_or n.values 1 0 ∷ []
