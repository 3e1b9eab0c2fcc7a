-- The answer of inlining, and the records that it writes.
use Rattle.std.specs.Prelude.{ℕ, List, [], ◌∷◌, ◌++◌, map, length, get_or, drop, ltb, if◌then◌else◌, None, Option, Some, Result, Ok, Err}
use Rattle.rules.specs.Table.{most_records, blank, field_key}
use Rattle.rules.specs.InlineGroups.{kept, record_of, first_unfit}
use Rattle.rules.specs.Replies.{Numbered, numbers}
use Rattle.rules.specs.declared.Record.{Record}
use Rattle.rules.specs.declared.Inlined.{Inlined}
use Rattle.rules.specs.declared.FieldKey.{FieldKey}
use Rattle.inline_groups.specs.declared.InlineError.{InlineError}
use Rattle.inline_groups.specs.declared.InlineError.TheVariants.{Swollen, BufferShort, Unfit}

-- the row of the table of replies and its values; 0 where none applies yet, with the number of records if they are written
unfoldable pub inlining_numbered : Result ℕ InlineError → Numbered
inlining_numbered (Err Swollen) = numbers 5 []
inlining_numbered (Err BufferShort) = numbers 0 []
inlining_numbered (Err (Unfit key)) = numbers 6 (key.0 ∷ [])
inlining_numbered (Ok records) = numbers 0 (records ∷ [])

-- the first record that is not fit, or how many there are
unfoldable pub inlined_or_unfit : List Inlined → Option ℕ → Result ℕ InlineError
inlined_or_unfit xs (Some i) = Err (Unfit (field_key (get_or xs i (kept blank)).made))
inlined_or_unfit xs None = Ok (length xs)

-- the answer once all is written
unfoldable pub by_fit : ℕ → Option FieldKey → Result ℕ InlineError
by_fit n None = Ok n
by_fit n (Some k) = Err (Unfit k)

-- the answer for the records of an inlined table and a buffer of m records
unfoldable pub inlining : ℕ → List Inlined → Result ℕ InlineError
inlining m xs =
    if ltb most_records (length xs) then Err Swollen
    else if ltb m (length xs) then Err BufferShort
    else inlined_or_unfit xs (first_unfit xs)

-- a buffer b with those records at its start, unless they are too many or more than b has
unfoldable pub inlining_records : List Record → List Inlined → List Record
inlining_records b xs =
    if ltb most_records (length xs) then b
    else if ltb (length b) (length xs) then b
    else map record_of xs ++ drop (length xs) b
