-- A word that looks like an option is refused, whatever stands around it.
use Rattle.std.proofs.Common.{◌≡◌, ◌≢◌, ◌∙◌, ◌<◌, ◌⊎◌, ◌++◌, ℕ, Bool, List, [], ◌∷◌, true, false, Some, None, inl, inr, codes, length, slice_get, refl, sym, ap, ap₂, arith}
use Rattle.std.proofs.lemmas.Bool.Decides.{nat_tests}
use Rattle.std.proofs.lemmas.Slice.Eq.{bytes_eq-Decides}
use Rattle.std.specs.Str.{bytes_eq, chars, chars_after, continuation_len, lead_bits}
use Rattle.clap.specs.declared.error.kind.ErrorKind.TheVariants.{UnknownArgument}
use Rattle.clap.specs.Lexer.{long_of, name_and_value, short_of}
use Rattle.clap.specs.Kinds.{or_else}
use Rattle.clap.specs.Walk.{Held, Rule, Text, arg_by_long, arg_by_short, walk_from, idle, nothing_held, walked, word_met}
use Rattle.clap.specs.Faults.{bundle_fault, bundle_step_fault, flags_fault, step_fault, turn_fault, walk_fault, word_fault}
use Rattle.clap.specs.Simple.{Shape}
use Rattle.std.specs.List.{AllByRecursion}
use Rattle.path_commands.specs.declared.commands.Verb.TheVariants.{Path, Check}
use Rattle.path_commands.specs.Words.{command_app, is_taken}
use Rattle.path_commands.specs.Commands.{app_for, verb_named}
use Rattle.path_commands.specs.Requests.{request_by, request_of}
use Rattle.path_commands.specs.PlainWords.{IsOtherLong, IsPlain, IsShort, IsUnknown, OtherOptionsAreRefused}
use Rattle.path_commands.proofs.PlainLemmas.{check_built, check_stray, check_walk, fault-1, fault-2, fault-3, fault-4, fault-5, fault_step, path_stray, top, walk-0, walk-1, walk-2, walk-3, walk-4, walk-5, walk_at}

not_dashes : (x : ℕ) (xs : Text) → x ≢ 45 → bytes_eq (45 ∷ x ∷ xs) (45 ∷ 45 ∷ []) ≡ false
not_dashes x xs other = grind (arith, nat_tests)

not_long : (x : ℕ) (xs : Text) → x ≢ 45 → long_of (45 ∷ x ∷ xs) ≡ None
not_long x xs other = grind (arith, nat_tests)

is_short : (x : ℕ) (xs : Text) → x ≢ 45 → short_of (45 ∷ x ∷ xs) ≡ Some (x ∷ xs)
is_short x xs other = grind (arith, nat_tests)

first_char : (x : ℕ) (xs : Text) → x < 128 → slice_get (chars (x ∷ xs)) 0 ≡ Some x
unfolding chars
first_char x xs ascii = ap₂ (λ n c. slice_get (chars_after n c xs) 0) (one_byte x ascii) (own_value x ascii) ∙ head xs
  where
    one_byte : (x : ℕ) → x < 128 → continuation_len x ≡ 0
    one_byte x ascii = grind (arith, nat_tests)

    own_value : (x : ℕ) → x < 128 → lead_bits x ≡ x
    own_value x ascii = grind (arith, nat_tests)

    head : (xs : Text) → slice_get (chars_after 0 x xs) 0 ≡ Some x
    head [] = refl
    head (y ∷ ys) = refl

-- there is no first character in the empty text
no_first : (c : ℕ) → slice_get (chars []) 0 ≡ Some c → ⊥
unfolding chars
no_first c first = cc

one_some : (a b : ℕ) → Some a ≡ Some b → a ≡ b
one_some a b e = cc

-- a hyphen is a character by itself
first_of_dash : (x : ℕ) (xs : Text) (c : ℕ) → x ≡ 45 → slice_get (chars (x ∷ xs)) 0 ≡ Some c → c ≡ 45
first_of_dash x xs c dash first = one_some c x (sym first ∙ first_char x xs (omega arith)) ∙ dash

-- clap knows no option of this command
abbrev HasNoShort : List Rule → Type 0
HasNoShort rules = (x : ℕ) → arg_by_short rules x ≡ None

bundle_refused : (rules : List Rule) (again : Bool) (x : ℕ) (xs : Text) (c : ℕ) (h : Held)
    → slice_get (chars (x ∷ xs)) 0 ≡ Some c → HasNoShort rules → h.skip ≡ 0
    → bundle_fault rules again (x ∷ xs) h ≡ UnknownArgument ∷ []
unfolding flags_fault
bundle_refused rules again x xs c h first none start =
    ap₂ (λ c n. bundle_step_fault rules again c (x ∷ xs) n (record h { skip = 0 }) (flags_fault rules again (length xs))) first start
    ∙ rw (none c) refl

-- a turn of the walk at such a word
short_refused : (s : Shape) (x : ℕ) (xs : Text) (c position : ℕ) (h : Held) → slice_get (chars (x ∷ xs)) 0 ≡ Some c → x ≢ 45 → HasNoShort s.rules → h.skip ≡ 0
    → turn_fault s [] (walk_at h position) (45 ∷ x ∷ xs) ≡ UnknownArgument ∷ []
short_refused s x xs c position h first other none start =
    let word = 45 ∷ x ∷ xs in
    let found : word_fault s [] false idle word h ≡ UnknownArgument ∷ [] =
    rw (not_dashes x xs other, not_long x xs other, is_short x xs other)
    (bundle_refused s.rules s.args_override_self x xs c h first none start) in
    let met = word_met s.rules [] false idle position word h in
    ap (λ kinds. or_else kinds (step_fault s position met.0 met.1)) found

-- clap knows these two long options of this command
abbrev HasTwoLong : List Rule → Type 0
HasTwoLong rules = (name : Text) → IsUnknown name → arg_by_long rules name ≡ None

long_refused : (s : Shape) (x : ℕ) (xs : Text) (position : ℕ) (h : Held)
    → HasTwoLong s.rules → IsUnknown (name_and_value (x ∷ xs)).0
    → turn_fault s [] (walk_at h position) (45 ∷ 45 ∷ x ∷ xs) ≡ UnknownArgument ∷ []
long_refused s x xs position h none unknown =
    let word = 45 ∷ 45 ∷ x ∷ xs in
    let found : word_fault s [] false idle word h ≡ UnknownArgument ∷ [] = rw (none (name_and_value (x ∷ xs)).0 unknown) refl in
    let met = word_met s.rules [] false idle position word h in
    ap (λ kinds. or_else kinds (step_fault s position met.0 met.1)) found

option_turn : (s : Shape) (word : Text) (position : ℕ) (h : Held) → HasNoShort s.rules → HasTwoLong s.rules → h.skip ≡ 0 → IsOtherLong word ⊎ IsShort word
    → turn_fault s [] (walk_at h position) word ≡ UnknownArgument ∷ []
option_turn s word position h short long start (inl (x, xs, is, unknown)) = rw is (long_refused s x xs position h long unknown)
option_turn s word position h short long start (inr ([], c, first, other, is)) = absurd (no_first c first)
option_turn s word position h short long start (inr (x ∷ xs, c, first, other, is)) = rw is (short_refused s x xs c position h first (λ dash. other (first_of_dash x xs c dash first)) short start)

option_refused : (s : Shape) (word : Text) (after : List Text) (position : ℕ) (h : Held) → HasNoShort s.rules → HasTwoLong s.rules → h.skip ≡ 0 → IsOtherLong word ⊎ IsShort word
    → walk_fault s [] (walk_at h position) (word ∷ after) ≡ UnknownArgument ∷ []
unfolding walk_fault
option_refused s word after position h short long start option =
    ap (λ kinds. or_else kinds (walk_fault s [] (walked s.rules [] (walk_at h position) word) after)) (option_turn s word position h short long start option)

differs : (x y : Text) → y ≢ x → bytes_eq x y ≡ false
differs x y other = by_test (bytes_eq x y) refl
  where
    by_test : (b : Bool) → bytes_eq x y ≡ b → b ≡ false
    by_test true e = absurd (other (sym ((bytes_eq-Decides x y).0 e)))
    by_test false e = refl

-- ---- `path`

path_refused : (words : List Text) → walk_fault top [] walk-0 words ≡ UnknownArgument ∷ [] → request_by Path (codes "path" ∷ words) ≡ None
unfolding request_by app_for command_app is_taken
path_refused words fault = rw fault refl

-- no option of `path` has another name
known_path : HasTwoLong top.rules
known_path name unknown = rw (differs _ _ unknown.order, differs _ _ unknown.workers) refl

path_option : (word : Text) (after : List Text) (position : ℕ) (h : Held) → h.skip ≡ 0 → IsOtherLong word ⊎ IsShort word
    → walk_fault top [] (walk_at h position) (word ∷ after) ≡ UnknownArgument ∷ []
path_option word after position h start option = option_refused top word after position h (λ x. refl) known_path start option

path_fault : (before after : List Text) (word : Text) → AllByRecursion IsPlain before → IsOtherLong word ⊎ IsShort word
    → walk_fault top [] walk-0 (before ++ word ∷ after) ≡ UnknownArgument ∷ []
path_fault [] after word plain option =
    path_option word after 1 nothing_held refl option
path_fault (a ∷ []) after word plain option =
    fault-1 a (word ∷ after) plain.0 ∙ path_option word after 2 (walk-1 a).held refl option
path_fault (a ∷ b ∷ []) after word plain option =
    fault-1 a (b ∷ word ∷ after) plain.0 ∙ fault-2 a b (word ∷ after) plain.1.0 ∙ path_option word after 3 (walk-2 a b).held refl option
path_fault (a ∷ b ∷ c ∷ []) after word plain option =
    fault-1 a (b ∷ c ∷ word ∷ after) plain.0
    ∙ fault-2 a b (c ∷ word ∷ after) plain.1.0
    ∙ fault-3 a b c (word ∷ after) plain.1.1.0
    ∙ path_option word after 4 (walk-3 a b c).held refl option
path_fault (a ∷ b ∷ c ∷ d ∷ []) after word plain option =
    fault-1 a (b ∷ c ∷ d ∷ word ∷ after) plain.0
    ∙ fault-2 a b (c ∷ d ∷ word ∷ after) plain.1.0
    ∙ fault-3 a b c (d ∷ word ∷ after) plain.1.1.0
    ∙ fault-4 a b c d (word ∷ after) plain.1.1.1.0
    ∙ path_option word after 5 (walk-4 a b c d).held refl option
path_fault (a ∷ b ∷ c ∷ d ∷ e ∷ []) after word plain option =
    fault-1 a (b ∷ c ∷ d ∷ e ∷ word ∷ after) plain.0
    ∙ fault-2 a b (c ∷ d ∷ e ∷ word ∷ after) plain.1.0
    ∙ fault-3 a b c (d ∷ e ∷ word ∷ after) plain.1.1.0
    ∙ fault-4 a b c d (e ∷ word ∷ after) plain.1.1.1.0
    ∙ fault-5 a b c d e (word ∷ after) plain.1.1.1.1.0
    ∙ path_option word after 6 (walk-5 a b c d e).held refl option
path_fault (a ∷ b ∷ c ∷ d ∷ e ∷ f ∷ rest) after word plain option =
    path_stray a b c d e f (rest ++ word ∷ after) plain.0 plain.1.0 plain.1.1.0 plain.1.1.1.0 plain.1.1.1.1.0 plain.1.1.1.1.1.0

-- ---- `check`

check_refused : (words : List Text) → walk_fault check_built.top [] (walk_from nothing_held) words ≡ UnknownArgument ∷ [] → request_by Check (codes "check" ∷ words) ≡ None
unfolding request_by app_for command_app is_taken
check_refused words fault = rw fault refl

-- nor has one of `check`
known_check : HasTwoLong check_built.top.rules
known_check name unknown = rw (differs _ _ unknown.order, differs _ _ unknown.workers) refl

check_option : (word : Text) (after : List Text) (position : ℕ) (h : Held) → h.skip ≡ 0 → IsOtherLong word ⊎ IsShort word
    → walk_fault check_built.top [] (walk_at h position) (word ∷ after) ≡ UnknownArgument ∷ []
check_option word after position h start option = option_refused check_built.top word after position h (λ x. refl) known_check start option

check_fault : (before after : List Text) (word : Text) → AllByRecursion IsPlain before → IsOtherLong word ⊎ IsShort word
    → walk_fault check_built.top [] (walk_from nothing_held) (before ++ word ∷ after) ≡ UnknownArgument ∷ []
check_fault [] after word plain option = check_option word after 1 nothing_held refl option
check_fault (file ∷ []) after word plain option =
    fault_step check_built.top file (word ∷ after) 1 nothing_held plain.0 ∙ check_option word after 2 (check_walk file).held refl option
check_fault (file ∷ other ∷ rest) after word plain option = check_stray file other (rest ++ word ∷ after) plain.0 plain.1.0

pub options_refused : OtherOptionsAreRefused
unfolding request_of verb_named
options_refused before after word plain option =
    (path_refused (before ++ word ∷ after) (path_fault before after word plain option), check_refused (before ++ word ∷ after) (check_fault before after word plain option))
