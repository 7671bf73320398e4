-- SHA password substitutes: RFC 4777, section 5.2, in its own names (with - for _). User identifiers and passwords are
-- lists of ASCII bytes.
use Rattle.std.specs.Prelude.{Bool, ◌&&◌, List, [], ◌∷◌, ◌++◌, ℕ, leb, length}
use Rattle.words.specs.BigEndian.{bytes}
use Rattle.names.specs.Name.{raised}
use Rattle.names.specs.Padding.{filled}
use Rattle.names.specs.Range.{in_range, every}
use Rattle.password_des.specs.Des.{PWSEQs}
use Rattle.sha1_hash.specs.Sha1.{sha1}

-- a text in UNICODE, two bytes to a character, of which the high one is 0
unfoldable pub unicode : List ℕ → List ℕ
unicode [] = []
unicode (b ∷ bs) = 0 ∷ b ∷ unicode bs

-- 1) the user identifier raised and padded with blanks to ten characters
abbrev pub uppercase-unicode-userid : List ℕ → List ℕ
uppercase-unicode-userid ID = unicode (filled 0x20 10 (raised ID))

-- 20X to 7EX
abbrev pub is_printable : ℕ → Bool
is_printable b = in_range 0x20 0x7E b

-- 2) whether a text is a password: 1 to 128 bytes, each of 20X to 7EX
unfoldable pub is_password : List ℕ → Bool
is_password text = leb 1 (length text) && leb (length text) 128 && every is_printable text

-- 3) the password token
unfoldable pub PW-token : (ID password : List ℕ) → List ℕ
PW-token ID password = sha1 (uppercase-unicode-userid ID ++ unicode password)

-- the sequence number in eight bytes
abbrev pub PWSEQ : List ℕ
PWSEQ = bytes 8 PWSEQs

-- what the substitute is the hash of
abbrev pub substitute_text : (token serverseed clientseed ID : List ℕ) → List ℕ
substitute_text token serverseed clientseed ID = token ++ serverseed ++ clientseed ++ uppercase-unicode-userid ID ++ PWSEQ

-- 5) the substitute password
unfoldable pub PW-SUB : (token serverseed clientseed ID : List ℕ) → List ℕ
PW-SUB token serverseed clientseed ID = sha1 (substitute_text token serverseed clientseed ID)
