-- Calls as they were made and answered: "each call given the last one's state and the bytes not yet taken, however cut,
-- even with nothing between two cuts".
use Rattle.std.specs.Prelude.{◌≡◌, ℕ, ◌+◌, List, [], ◌∷◌, ◌++◌, take, drop}
use Rattle.telnet.specs.Event.{Event}
use Rattle.telnet.specs.Whole.{Mode, ended}
use Rattle.telnet_fragments.specs.declared.Reader.{Reader}
use Rattle.telnet_fragments.specs.declared.Taken.{Taken}
use Rattle.telnet_fragments.specs.Promise.{happened, mode_of, fresh_reader, Fed}

-- a call: the reader and the array that it was given, the fragment and the room; the answer, and what it left in the
-- array and in the room
pub record Made : Type 0 where
  pub reader : Reader
  pub kept : List ℕ
  pub fragment : List ℕ
  pub room : List ℕ
  pub answer : Taken
  pub keeps : List ℕ
  pub left : List ℕ

-- answered as `feed` promises
abbrev pub Promised : Made → Type 0
Promised c = Fed c.reader c.kept c.fragment c.room c.answer c.keeps c.left

-- the mode that a call found, and the one that it left
abbrev pub found : Made → Mode
found c = mode_of c.reader c.kept

abbrev pub left_in : Made → Mode
left_in c = mode_of c.answer.reader c.keeps

-- what a call gave: the data at the front of the room, and the event with the payload right after it
unfoldable pub gave : Made → List Event
gave c =
    ended (take c.answer.length c.left)
    ++ happened c.answer.kind (take c.answer.payload (drop c.answer.length c.left))

unfoldable pub gave_all : List Made → List Event
gave_all [] = []
gave_all (c ∷ cs) = gave c ++ gave_all cs

unfoldable pub took_all : List Made → ℕ
took_all [] = 0
took_all (c ∷ cs) = c.answer.taken + took_all cs

-- the reader and the array after the last call
unfoldable pub last_reader : Reader → List Made → Reader
last_reader r [] = r
last_reader r (c ∷ cs) = last_reader c.answer.reader cs

unfoldable pub last_kept : (kept : List ℕ) → List Made → List ℕ
last_kept k [] = k
last_kept k (c ∷ cs) = last_kept c.keeps cs

-- the mode after calls that began fresh
abbrev pub end_mode : (kept : List ℕ) → List Made → Mode
end_mode kept cs = mode_of (last_reader fresh_reader cs) (last_kept kept cs)

-- Calls on a stream from a reader and its array on: each is given the last one's and any beginning of the bytes not yet
-- taken, an empty one too. A call that was refused is among them.
pub data Chain : Reader → (kept bs : List ℕ) → List Made → Type 0 where
  none : {r : Reader} {k bs : List ℕ} → Chain r k bs []
  next : {r : Reader} {k bs : List ℕ} {c : Made} {cs : List Made} (n : ℕ) → c.reader ≡ r → c.kept ≡ k → c.fragment ≡ take n bs → Promised c
      → Chain c.answer.reader c.keeps (drop c.answer.taken bs) cs → Chain r k bs (c ∷ cs)
