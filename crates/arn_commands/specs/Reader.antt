-- What is taken of a source, and used.
use Rattle.std.specs.Prelude.{◌≡◌, ◌<◌, ◌≤◌, ℕ, ◌+◌, ◌-◌, List, [], ◌++◌, length, Option, option_map, IfSome}
use Rattle.arn_commands.specs.declared.reader.TheConstants.{MOST_TAKEN}

-- the bytes that were taken and not used yet, and how many were taken in all
pub record ReaderState : Type 0 where
  pub ahead : List ℕ
  pub taken : ℕ

-- before the first byte is taken
abbrev pub fresh_reader : ReaderState
fresh_reader = record { ahead = []; taken = 0 }

-- the place of the bytes ahead in a chunk
pub record IsReaderSound (len from to taken : ℕ) : Type 0 where
  pub some_room : 0 < len
  pub in_order : from ≤ to
  pub in_range : to ≤ len
  pub were_taken : to - from ≤ taken
  pub no_more : taken ≤ MOST_TAKEN

-- the bytes that come, where the source tells those that it has left
abbrev pub to_come : ReaderState → Option (List ℕ) → Option (List ℕ)
to_come reader left = option_map (λ rest. reader.ahead ++ rest) left

-- these bytes came next, and were used
pub record Uses (bytes : List ℕ) (before after : ReaderState) (left_before left_after : Option (List ℕ)) : Type 0 where
  pub come : to_come before left_before ≡ option_map (λ rest. bytes ++ rest) (to_come after left_after)
  pub counted : after.taken + length before.ahead ≡ before.taken + (length bytes + length after.ahead)

-- some bytes came next, and were used
pub record UsesSome (before after : ReaderState) (left_before left_after : Option (List ℕ)) : Type 0 where
  pub bytes : List ℕ
  pub used : Uses bytes before after left_before left_after

-- every byte that was taken is used, and more may be taken
pub record StopsShort (reader : ReaderState) : Type 0 where
  pub used_up : reader.ahead ≡ []
  pub some_room : reader.taken < MOST_TAKEN

-- every byte that was taken is used, and no more is taken
pub record StopsLong (reader : ReaderState) : Type 0 where
  pub used_up : reader.ahead ≡ []
  pub no_room : reader.taken ≡ MOST_TAKEN

-- every byte of the source is used, and more might be taken
pub record IsAtEnd (reader : ReaderState) (left : Option (List ℕ)) : Type 0 where
  pub short : StopsShort reader
  pub none_left : IfSome left (λ bytes. bytes ≡ [])
