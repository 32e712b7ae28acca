-- The line of a row reads back as the row.
use Rattle.std.proofs.Common.{◌≡◌, ◌<◌, ◌≤◌, ◌^◌, ℕ, pos, negsuc, List, [], ◌∷◌, ◌++◌, append_assoc, append-nil, Bool, true, false, cond, Option, Some}
use Rattle.std.proofs.Common.{option_map, option_and_then, IsUtf8, refl, sym, ap, ap₂, ◌∙◌, arith, decimal}
use Rattle.std.proofs.lemmas.Fmt.{IsAscii-decimal, IsAscii-signed}
use Rattle.std.proofs.lemmas.Str.{IsUtf8-append, IsUtf8-nil, IsUtf8-from_ascii}
use Rattle.std.specs.Fmt.{signed_decimal}
use Rattle.json.specs.Token.{Token}
use Rattle.json.specs.Word.{ends_word, word}
use Rattle.json.specs.Lex.{Lexeme, after_comma, after_value, begins_colon, between, comma, fresh, lex, punctuate, string_token, token, tokens}
use Rattle.json.specs.Print.{escape, quoted}
use Rattle.json.specs.Json as grammar
use Rattle.json.specs.Tree as tree
use Rattle.json.proofs.Printed.Numbers.{in_word-ended, lex-number}
use Rattle.json.proofs.Printed.Decimals.{IsNumber-decimal, IsNumber-signed_decimal}
use Rattle.json.proofs.Printed.Strings.{content-escape, lex-escape}
use Rattle.json.proofs.Printed.Trees.{value-json_tokens}
use Rattle.json.proofs.Printed.Utf8.{IsUtf8-are_ascii, IsUtf8-boolean, IsUtf8-quoted}
use Rattle.serde_json.specs.Data as json
use Rattle.serde_json.specs.Data.{Data, Items}
use Rattle.serde_json.specs.Read.{max_depth, of_items, of_json, read}
use Rattle.serde_json.specs.Written.{comma_if, compact_text, items_outline, items_text, number_text, outline}
use Rattle.serde_json.proofs.Numbers.{number_of-decimal, number_of-negative}

-- ---- values that hold no others

-- a value with no others inside, whose numbers have 64 bits and whose texts are in UTF-8
abbrev pub IsLeaf : Data → Type 0
IsLeaf json.null = Unit {0}
IsLeaf (json.boolean b) = Unit {0}
IsLeaf (json.number (json.unsigned n)) = n < 2 ^ 64
IsLeaf (json.number (json.negative (pos n))) = ⊥
IsLeaf (json.number (json.negative (negsuc n))) = n < 2 ^ 63
IsLeaf (json.number (json.float x)) = ⊥
IsLeaf (json.string s) = IsUtf8 s
IsLeaf (json.array ds) = ⊥
IsLeaf (json.object ms) = ⊥

abbrev pub AreLeaves : Items → Type 0
AreLeaves json.no_items = Unit {0}
AreLeaves (json.item d ds) = IsLeaf d × AreLeaves ds

-- the token of such a value
abbrev leaf_token : Data → Token
leaf_token json.null = Token.null
leaf_token (json.boolean b) = Token.boolean b
leaf_token (json.number n) = Token.number (number_text n)
leaf_token (json.string s) = Token.string s
leaf_token (json.array ds) = Token.bad
leaf_token (json.object ms) = Token.bad

lex_quoted : (s rest : List ℕ) → lex between (quoted s ++ rest) ≡ token (Token.string s) ∷ lex between rest
unfolding lex
lex_quoted s rest =
    ap (λ l. lex between (34 ∷ l)) (append_assoc (escape s) (34 ∷ []) rest)
    ∙ ap₂ (λ o l. token (string_token o) ∷ l) (content-escape s rest) (lex-escape s rest)

lex_leaf : (d : Data) (rest : List ℕ) → IsLeaf d → ends_word rest ≡ true
    → lex between (compact_text d ++ rest) ≡ token (leaf_token d) ∷ lex between rest
unfolding lex word
lex_leaf json.null rest is ended = ap₂ (λ b l. token (cond b Token.null Token.bad) ∷ l) ended (in_word-ended rest ended)
lex_leaf (json.boolean true) rest is ended = ap₂ (λ b l. token (cond b (Token.boolean true) Token.bad) ∷ l) ended (in_word-ended rest ended)
lex_leaf (json.boolean false) rest is ended = ap₂ (λ b l. token (cond b (Token.boolean false) Token.bad) ∷ l) ended (in_word-ended rest ended)
lex_leaf (json.number (json.unsigned n)) rest is ended = lex-number (decimal n) rest (IsNumber-decimal n is) ended
lex_leaf (json.number (json.negative (pos n))) rest is ended = absurd is
lex_leaf (json.number (json.negative (negsuc n))) rest is ended = lex-number (signed_decimal (negsuc n)) rest (IsNumber-signed_decimal (negsuc n) is) ended
lex_leaf (json.number (json.float x)) rest is ended = absurd is
lex_leaf (json.string s) rest is ended = lex_quoted s rest
lex_leaf (json.array ds) rest is ended = absurd is
lex_leaf (json.object ms) rest is ended = absurd is

utf8_leaf : (d : Data) → IsLeaf d → IsUtf8 (compact_text d)
utf8_leaf json.null is = IsUtf8-are_ascii (110 ∷ 117 ∷ 108 ∷ 108 ∷ []) refl
utf8_leaf (json.boolean b) is = IsUtf8-boolean b
utf8_leaf (json.number (json.unsigned n)) is = IsUtf8-from_ascii _ (IsAscii-decimal n is)
utf8_leaf (json.number (json.negative (pos n))) is = absurd is
utf8_leaf (json.number (json.negative (negsuc n))) is = IsUtf8-from_ascii _ (IsAscii-signed (negsuc n) is)
utf8_leaf (json.number (json.float x)) is = absurd is
utf8_leaf (json.string s) is = IsUtf8-quoted s is
utf8_leaf (json.array ds) is = absurd is
utf8_leaf (json.object ms) is = absurd is

-- ---- arrays of such values

-- a value ends before what follows it in an array
items_end : (ds : Items) (rest : List ℕ) → ends_word (items_text true ds ++ rest) ≡ true
items_end json.no_items rest = refl
items_end (json.item d ds) rest = refl

abbrev item_lexemes : Bool → Items → List Lexeme
item_lexemes later json.no_items = token Token.end_array ∷ []
item_lexemes later (json.item d ds) = cond later (comma ∷ []) [] ++ (token (leaf_token d) ∷ item_lexemes true ds)

lex_items : (later : Bool) (ds : Items) (rest : List ℕ) → AreLeaves ds
    → lex between (items_text later ds ++ rest) ≡ item_lexemes later ds ++ lex between rest
unfolding lex
lex_items later json.no_items rest are = refl
lex_items true (json.item d ds) rest are =
    ap (λ l. comma ∷ lex between l) (append_assoc (compact_text d) (items_text true ds) rest)
    ∙ ap (λ l. comma ∷ l) (lex_leaf d (items_text true ds ++ rest) are.0 (items_end ds rest)
    ∙ ap (λ l. token (leaf_token d) ∷ l) (lex_items true ds rest are.1))
lex_items false (json.item d ds) rest are =
    ap (lex between) (append_assoc (compact_text d) (items_text true ds) rest)
    ∙ lex_leaf d (items_text true ds ++ rest) are.0 (items_end ds rest)
    ∙ ap (λ l. token (leaf_token d) ∷ l) (lex_items true ds rest are.1)

no_colon : (ds : Items) → begins_colon (item_lexemes true ds) ≡ false
no_colon json.no_items = refl
no_colon (json.item d ds) = refl

-- a value that begins where one may begin
punct_leaf : (d : Data) (ls : List Lexeme) → IsLeaf d → begins_colon ls ≡ false
    → (punctuate fresh (token (leaf_token d) ∷ ls) ≡ leaf_token d ∷ punctuate after_value ls)
    × (punctuate after_comma (token (leaf_token d) ∷ ls) ≡ leaf_token d ∷ punctuate after_value ls)
unfolding punctuate
punct_leaf json.null ls is plain = (refl, refl)
punct_leaf (json.boolean b) ls is plain = (refl, refl)
punct_leaf (json.number n) ls is plain = (refl, refl)
punct_leaf (json.string s) ls is plain = (rw plain refl, rw plain refl)
punct_leaf (json.array ds) ls is plain = absurd is
punct_leaf (json.object ms) ls is plain = absurd is

-- the tokens of an array's values, with its closing bracket
abbrev leaf_tokens : Items → List Token
leaf_tokens json.no_items = Token.end_array ∷ []
leaf_tokens (json.item d ds) = leaf_token d ∷ leaf_tokens ds

punct_later : (ds : Items) → AreLeaves ds → punctuate after_value (item_lexemes true ds) ≡ leaf_tokens ds
unfolding punctuate
punct_later json.no_items are = refl
punct_later (json.item d ds) are =
    (punct_leaf d (item_lexemes true ds) are.0 (no_colon ds)).1 ∙ ap (λ ts. leaf_token d ∷ ts) (punct_later ds are.1)

punct_first : (ds : Items) → AreLeaves ds → punctuate fresh (item_lexemes false ds) ≡ leaf_tokens ds
unfolding punctuate
punct_first json.no_items are = refl
punct_first (json.item d ds) are =
    (punct_leaf d (item_lexemes true ds) are.0 (no_colon ds)).0 ∙ ap (λ ts. leaf_token d ∷ ts) (punct_later ds are.1)

leaf_is : (d : Data) → IsLeaf d → tree.json_tokens (outline d) ≡ leaf_token d ∷ []
leaf_is json.null is = refl
leaf_is (json.boolean b) is = refl
leaf_is (json.number n) is = refl
leaf_is (json.string s) is = refl
leaf_is (json.array ds) is = absurd is
leaf_is (json.object ms) is = absurd is

leaves_are : (ds : Items) → AreLeaves ds → tree.items_tokens (items_outline ds) ≡ leaf_tokens ds
leaves_are json.no_items are = refl
leaves_are (json.item d ds) are = rw (leaf_is d are.0, leaves_are ds are.1) refl

-- the tokens of an array's line
line_tokens : (ds : Items) → AreLeaves ds → tokens (compact_text (json.array ds) ++ 10 ∷ []) ≡ tree.json_tokens (outline (json.array ds))
unfolding lex punctuate
line_tokens ds are =
    ap (λ ls. Token.begin_array ∷ punctuate fresh ls) (lex_items false ds (10 ∷ []) are ∙ append-nil (item_lexemes false ds))
    ∙ ap (λ ts. Token.begin_array ∷ ts) (punct_first ds are ∙ sym (leaves_are ds are))

-- ---- from tokens to values

leaf_depth : (d : Data) → IsLeaf d → tree.depth (outline d) ≡ 0
leaf_depth json.null is = refl
leaf_depth (json.boolean b) is = refl
leaf_depth (json.number n) is = refl
leaf_depth (json.string s) is = refl
leaf_depth (json.array ds) is = absurd is
leaf_depth (json.object ms) is = absurd is

leaves_depth : (ds : Items) → AreLeaves ds → tree.items_depth (items_outline ds) ≡ 0
leaves_depth json.no_items are = refl
leaves_depth (json.item d ds) are = rw (leaf_depth d are.0, leaves_depth ds are.1) refl

of_leaf : (d : Data) → IsLeaf d → of_json (outline d) ≡ Some d
of_leaf json.null is = refl
of_leaf (json.boolean b) is = refl
of_leaf (json.number (json.unsigned n)) is = rw (number_of-decimal n is) refl
of_leaf (json.number (json.negative (pos n))) is = absurd is
of_leaf (json.number (json.negative (negsuc n))) is = rw (number_of-negative n is) refl
of_leaf (json.number (json.float x)) is = absurd is
of_leaf (json.string s) is = refl
of_leaf (json.array ds) is = absurd is
of_leaf (json.object ms) is = absurd is

of_leaves : (ds : Items) → AreLeaves ds → of_items (items_outline ds) ≡ Some ds
of_leaves json.no_items are = refl
of_leaves (json.item d ds) are = rw (of_leaf d are.0, of_leaves ds are.1) refl

-- what one value and no more is read as
abbrev whole : Option (grammar.Json × List Token) → Option Data
whole found = option_and_then of_json (option_and_then (λ p. grammar.if_last p.0 p.1) found)

-- an array's line reads as the array
pub line_read : (ds : Items) → AreLeaves ds → read (compact_text (json.array ds) ++ 10 ∷ []) ≡ Some (json.array ds)
line_read ds are =
    let flat = leaves_depth ds are in
    let small : tree.depth (outline (json.array ds)) ≤ max_depth = rw flat (omega arith) in
    ap whole (ap (grammar.value max_depth) (line_tokens ds are ∙ sym (append-nil _)) ∙ value-json_tokens (outline (json.array ds)) max_depth [] small)
    ∙ ap (option_map json.array) (of_leaves ds are)

-- and is in UTF-8
items_utf8 : (later : Bool) (ds : Items) → AreLeaves ds → IsUtf8 (items_text later ds)
items_utf8 later json.no_items are = IsUtf8-are_ascii (93 ∷ []) refl
items_utf8 later (json.item d ds) are =
    IsUtf8-append _ _ (comma_utf8 later) (IsUtf8-append _ _ (utf8_leaf d are.0) (items_utf8 true ds are.1))
  where
    comma_utf8 : (b : Bool) → IsUtf8 (comma_if b)
    comma_utf8 true = IsUtf8-are_ascii (44 ∷ []) refl
    comma_utf8 false = IsUtf8-nil

pub line_utf8 : (ds : Items) → AreLeaves ds → IsUtf8 (compact_text (json.array ds) ++ 10 ∷ [])
line_utf8 ds are =
    IsUtf8-append _ _
    (IsUtf8-append (91 ∷ []) (items_text false ds) (IsUtf8-are_ascii (91 ∷ []) refl) (items_utf8 false ds are))
    (IsUtf8-are_ascii (10 ∷ []) refl)
