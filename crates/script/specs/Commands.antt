-- Request lines: the request's word, and the words that it takes, read from left to right. Quotations are the request script's. Assumes nothing.
use Rattle.std.specs.Prelude.{ℕ, Bool, cond, ◌&&◌, List, [], ◌∷◌, length, take, eqb, Option, Some, None, is_some, option_map, option_and_then, find}
use Rattle.lists.specs.Bytes.{Bytes, same, zeros, is_empty, laid_over}
use Rattle.script.specs.Text.{text}
use Rattle.script.specs.Words.{first_word, after_word}
use Rattle.script.specs.Numbers.{number_of}
use Rattle.script.specs.Strings.{is_byte_string, bytes_of}
use Rattle.script.specs.declared.Verb.{Verb}
use Rattle.script.specs.declared.Verb.TheVariants.{AddKey, RemoveKey, SetPolicy, GetPolicy, Create, Link, Rename, Exchange, Remove, Find, Show, Seal, Open}
use Rattle.script.specs.declared.Sort.{Sort}
use Rattle.script.specs.declared.Sort.TheVariants.{First, Second, Text, Descriptor, Nonce, Size}
use Rattle.script.specs.declared.Args.{Args}

-- the requests' words, letter for letter
abbrev pub verbs : List (Bytes × Verb)
verbs =
    (text "add-key", AddKey) ∷
    (text "remove-key", RemoveKey) ∷
    (text "set-policy", SetPolicy) ∷
    (text "get-policy", GetPolicy) ∷
    (text "create", Create) ∷
    (text "link", Link) ∷
    (text "rename", Rename) ∷
    (text "exchange", Exchange) ∷
    (text "remove", Remove) ∷
    (text "find", Find) ∷
    (text "show", Show) ∷
    (text "seal", Seal) ∷
    (text "open", Open) ∷
    []

-- the request that a word names, the first such in the list
unfoldable pub verb_of : Bytes → Option Verb
verb_of w = option_map (λ (row : Bytes × Verb). row.1) (find (λ (row : Bytes × Verb). same w row.0) verbs)

-- what the words are that each request takes
abbrev pub shape_of : Verb → List Sort
shape_of AddKey = Descriptor ∷ Text ∷ []
shape_of RemoveKey = Descriptor ∷ []
shape_of SetPolicy = First ∷ Text ∷ Nonce ∷ []
shape_of GetPolicy = First ∷ []
shape_of Create = First ∷ Second ∷ Text ∷ Nonce ∷ []
shape_of Link = First ∷ Second ∷ Text ∷ []
shape_of Rename = First ∷ Second ∷ Text ∷ []
shape_of Exchange = First ∷ Second ∷ []
shape_of Remove = First ∷ []
shape_of Find = First ∷ Text ∷ []
shape_of Show = First ∷ Size ∷ []
shape_of Seal = First ∷ Second ∷ Text ∷ []
shape_of Open = First ∷ Second ∷ Text ∷ []

-- ---- what the words come to. The bytes of KEY, POLICY, NAME or BLOCK, of which a request has one at most, are its payload, `len` of them, in a buffer of their own.

abbrev pub no_args : Args
no_args = record { first = 0; second = 0; descriptor = zeros 8; nonce = zeros 16; len = 0 }

abbrev pub with_first : Args → ℕ → Args
with_first a n = record { first = n; second = a.second; descriptor = a.descriptor; nonce = a.nonce; len = a.len }

abbrev pub with_second : Args → ℕ → Args
with_second a n = record { first = a.first; second = n; descriptor = a.descriptor; nonce = a.nonce; len = a.len }

abbrev pub with_len : Args → ℕ → Args
with_len a n = record { first = a.first; second = a.second; descriptor = a.descriptor; nonce = a.nonce; len = n }

abbrev pub with_descriptor : Args → Bytes → Args
with_descriptor a d = record { first = a.first; second = a.second; descriptor = d; nonce = a.nonce; len = a.len }

abbrev pub with_nonce : Args → Bytes → Args
with_nonce a x = record { first = a.first; second = a.second; descriptor = a.descriptor; nonce = x; len = a.len }

-- a byte string of exactly so many bytes
abbrev pub is_bytes : ℕ → Bytes → Bool
is_bytes n w = is_byte_string w && eqb (length (bytes_of w)) n

-- the bytes that such a byte string stands for
abbrev pub bytes_in : ℕ → Bytes → Option Bytes
bytes_in n w = cond (is_bytes n w) (Some (bytes_of w)) None

-- one word more: what it should be, and what it is; none where it is not that ("SIZE is the size of the name buffer lent, 255 if left out")
unfoldable pub taken : Args → Sort → Bytes → Option Args
taken a First w = option_map (with_first a) (number_of w)
taken a Second w = option_map (with_second a) (number_of w)
taken a Text w = cond (is_byte_string w) (Some (with_len a (length (bytes_of w)))) None
taken a Descriptor w = option_map (with_descriptor a) (bytes_in 8 w)
taken a Nonce w = cond (same w (text "-")) (Some (with_nonce a (zeros 16))) (option_map (with_nonce a) (bytes_in 16 w))
taken a Size w = cond (is_empty w) (Some (with_second a 255)) (option_map (with_second a) (number_of w))

-- the bytes of KEY, POLICY, NAME or BLOCK, once that word has been taken
unfoldable pub taken_text : Bytes → Sort → Bytes → Bytes
taken_text t Text w = bytes_of w
taken_text t First w = t
taken_text t Second w = t
taken_text t Descriptor w = t
taken_text t Nonce w = t
taken_text t Size w = t

-- the arguments and the bytes so far
pub record Reading : Type 0 where
  pub args : Args
  pub bytes : Bytes

abbrev pub reading : Args → Bytes → Reading
reading a b = record { args = a; bytes = b }

-- the same, where the bytes stand at the start of a buffer
abbrev pub read_in : Bytes → Args → Reading
read_in buffer a = reading a (take a.len buffer)

abbrev pub next : Reading → Sort → Bytes → Option Reading
next p s w = option_map (λ (a : Args). reading a (taken_text p.bytes s w)) (taken p.args s w)

-- the words of a line, each what it should be, and none after them ("a wrong number of words": a missing word is an empty one, which is no number and no byte string)
abbrev pub read_on : Reading → List Sort → Bytes → Option Reading
read_on p [] line = cond (is_empty (first_word line)) (Some p) None
read_on p (s ∷ shape) line = option_and_then (λ (q : Reading). read_on q shape (after_word line)) (next p s (first_word line))

unfoldable pub read_words : List Sort → Bytes → Option Reading
read_words shape line = read_on (reading no_args []) shape line

-- ---- what the words leave in the buffer, read to the end or not

-- the bytes of a KEY, POLICY, NAME or BLOCK are laid over the buffer's start; no other word changes it
unfoldable pub laid_text : Bytes → Sort → Bytes → Bytes
laid_text buffer Text w = laid_over buffer (bytes_of w)
laid_text buffer First w = buffer
laid_text buffer Second w = buffer
laid_text buffer Descriptor w = buffer
laid_text buffer Nonce w = buffer
laid_text buffer Size w = buffer

-- whether a word is what it should be, whatever has been read before it
abbrev pub is_taken : Sort → Bytes → Bool
is_taken s w = is_some (taken no_args s w)

-- after the words of a line: each that is what it should be has been laid, also after one that is not, and no others
abbrev pub left_in : Bytes → List Sort → Bytes → Bytes
left_in buffer [] line = buffer
left_in buffer (s ∷ shape) line = let w = first_word line in left_in (cond (is_taken s w) (laid_text buffer s w) buffer) shape (after_word line)
