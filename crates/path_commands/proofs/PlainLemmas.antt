-- Words of which none begins with a hyphen go to the arguments of a command in order.
use Rattle.std.proofs.Common.{◌≡◌, ◌∙◌, ℕ, List, [], ◌∷◌, true, false, None, Some, is_some, codes, fold, refl, ap, ap₂, arith}
use Rattle.std.proofs.lemmas.Bool.Decides.{nat_tests}
use Rattle.std.specs.List.{AllByRecursion}
use Rattle.std.specs.Str.{bytes_eq}
use Rattle.clap.specs.Walk.{Held, Rule, Step, Text, Walk, after_step, arg_by_index, finished, idle, nothing_held, settled, to_positional, value, walk, walk_from, walked, word_met}
use Rattle.clap.specs.Lexer.{strip_byte}
use Rattle.clap.specs.Simple.{App, Shape, built, entered, matches_of, names_of, new_shape}
use Rattle.clap.specs.declared.error.kind.ErrorKind.TheVariants.{MissingRequiredArgument, UnknownArgument}
use Rattle.clap.proofs.OnLiterals.{clap_on_literals}
use Rattle.clap.specs.Kinds.{Kinds, or_else}
use Rattle.clap.specs.Faults.{built_fault, check_fault, defaults_fault, entered_fault, settle_fault, step_fault, turn_fault, walk_fault}
use Rattle.path_commands.specs.declared.commands.Verb.TheVariants.{Path, Check}
use Rattle.path_commands.specs.Words.{command_app, is_taken, path_in, value_of}
use Rattle.path_commands.specs.Commands.{app_for, verb_named, verb_rules}
use Rattle.path_commands.specs.Requests.{build_at, cell_at, check_by, check_from, path_by, request_by, request_of}
use Rattle.path_commands.specs.PlainWords.{IsPlain, PlainWordsAreRead, plain_check, plain_path, standard_build}

-- the walk between two words, where nothing waits and no word was `--`
abbrev pub walk_at : Held → ℕ → Walk
walk_at held position = record { held = held; waiting = idle; position = position; is_trailing = false; stopped = None }

no_hyphen : (word : Text) → IsPlain word → strip_byte 45 word ≡ None
no_hyphen [] plain = refl
no_hyphen (x ∷ xs) plain = grind (arith, nat_tests)

no_dashes : (word : Text) → IsPlain word → bytes_eq word (45 ∷ 45 ∷ []) ≡ false
no_dashes [] plain = refl
no_dashes (x ∷ xs) plain = grind (arith, nat_tests)

met_plain : (c : List Rule) (word : Text) (position : ℕ) (h : Held) → IsPlain word → word_met c [] false idle position word h ≡ (h, value)
met_plain c word position h plain = rw (no_dashes word plain, no_hyphen word plain, no_hyphen word plain) refl

step_plain : (c : List Rule) (word : Text) (position : ℕ) (h : Held) → IsPlain word
    → walked c [] (walk_at h position) word ≡ to_positional c (arg_by_index c position) word (walk_at h position) h
unfolding walked
step_plain c word position h plain = ap (λ (met : Held × Step). after_step c word (walk_at h position) met.0 met.1) (met_plain c word position h plain)

fault_plain : (s : Shape) (word : Text) (position : ℕ) (h : Held) → IsPlain word → turn_fault s [] (walk_at h position) word ≡ step_fault s position h value
fault_plain s word position h plain = rw (no_dashes word plain, no_hyphen word plain, no_hyphen word plain) refl

-- a plain word goes to the argument at the walk's position
abbrev pub next : List Rule → Text → Walk → Walk
next c word w = to_positional c (arg_by_index c w.position) word w w.held

walk_step : (c : List Rule) (word : Text) (rest : List Text) (position : ℕ) (h : Held) → IsPlain word
    → fold (walked c []) (walk_at h position) (word ∷ rest) ≡ fold (walked c []) (next c word (walk_at h position)) rest
walk_step c word rest position h plain = ap (λ w. fold (walked c []) w rest) (step_plain c word position h plain)

pub fault_step : (s : Shape) (word : Text) (rest : List Text) (position : ℕ) (h : Held) → IsPlain word
    → walk_fault s [] (walk_at h position) (word ∷ rest) ≡ or_else (step_fault s position h value) (walk_fault s [] (next s.rules word (walk_at h position)) rest)
unfolding walk_fault
fault_step s word rest position h plain =
    ap₂ or_else (fault_plain s word position h plain) (ap (λ w. walk_fault s [] w rest) (step_plain s.rules word position h plain))

-- the faults of a command at words at whose end the walk is known
abbrev faults_at : App → List Text → Walk → Kinds
faults_at a words w = or_else (walk_fault a.top (names_of a) (walk_from nothing_held) words)
    (or_else (entered_fault a w.stopped) (or_else (settle_fault a.top.rules a.top.args_override_self w.held)
    (or_else (defaults_fault (settled a.top.rules w.held).rows a.top.rules)
    (check_fault a.top (finished a.top.rules w.held) (is_some (entered a w.stopped))))))

faults_are : (a : App) (words : List Text) (w : Walk) → walk a.top.rules (names_of a) nothing_held words ≡ w → built_fault a nothing_held words ≡ faults_at a words w
faults_are a words w e = ap (faults_at a words) e

-- ---- `check`

abbrev pub check_built : App
check_built = built (record { top = record (new_shape (codes "check")) { rules = verb_rules Check; disable_help_flag = true; disable_version_flag = true }; subs = [] })

abbrev pub check_walk : Text → Walk
check_walk file = next check_built.top.rules file (walk_from nothing_held)

check_end : (file : Text) → IsPlain file → walk check_built.top.rules [] nothing_held (file ∷ []) ≡ check_walk file
check_end file plain = walk_step check_built.top.rules file [] 1 nothing_held plain

check_fault_one : (file : Text) → IsPlain file → built_fault check_built nothing_held (file ∷ []) ≡ []
unfolding defaults_fault walk_fault
check_fault_one file plain = faults_are check_built (file ∷ []) (check_walk file) (check_end file plain)
    ∙ ap (λ kinds. or_else kinds []) (fault_step check_built.top file [] 1 nothing_held plain)

check_row : (file : Text) → IsPlain file → matches_of (app_for Check) (codes "check" ∷ file ∷ []) ≡ finished check_built.top.rules (check_walk file).held
unfolding app_for command_app
check_row file plain = ap (λ (w : Walk). finished check_built.top.rules w.held) (check_end file plain)

check_one : (file : Text) → IsPlain file → request_by Check (codes "check" ∷ file ∷ []) ≡ check_from (path_in file) (Some standard_build)
unfolding request_by app_for command_app is_taken value_of check_by build_at
check_one file plain = rw (check_fault_one file plain, check_row file plain) refl

check_none : request_by Check (codes "check" ∷ []) ≡ None
unfolding request_by app_for command_app is_taken clap_on_literals
check_none = refl

pub check_stray : (file other : Text) (rest : List Text) → IsPlain file → IsPlain other
    → walk_fault check_built.top [] (walk_from nothing_held) (file ∷ other ∷ rest) ≡ UnknownArgument ∷ []
check_stray file other rest p q = fault_step check_built.top file (other ∷ rest) 1 nothing_held p
    ∙ fault_step check_built.top other rest 2 (check_walk file).held q

check_many : (file other : Text) (rest : List Text) → IsPlain file → IsPlain other → request_by Check (codes "check" ∷ file ∷ other ∷ rest) ≡ None
unfolding request_by app_for command_app is_taken
check_many file other rest p q = rw (check_stray file other rest p q) refl

pub plain_check_read : (words : List Text) → AllByRecursion IsPlain words → request_by Check (codes "check" ∷ words) ≡ plain_check words
plain_check_read [] plain = check_none
plain_check_read (file ∷ []) plain = check_one file plain.0
plain_check_read (file ∷ other ∷ rest) plain = check_many file other rest plain.0 plain.1.0

-- ---- `path`

abbrev pub path_built : App
path_built = built (record { top = record (new_shape (codes "path")) { rules = verb_rules Path; disable_help_flag = true; disable_version_flag = true }; subs = [] })

abbrev pub top : Shape
top = path_built.top

abbrev pub walk-0 : Walk
walk-0 = walk_from nothing_held

abbrev pub walk-1 : Text → Walk
walk-1 a = next top.rules a walk-0

abbrev pub walk-2 : Text → Text → Walk
walk-2 a b = next top.rules b (walk-1 a)

abbrev pub walk-3 : Text → Text → Text → Walk
walk-3 a b c = next top.rules c (walk-2 a b)

abbrev pub walk-4 : Text → Text → Text → Text → Walk
walk-4 a b c d = next top.rules d (walk-3 a b c)

abbrev pub walk-5 : Text → Text → Text → Text → Text → Walk
walk-5 a b c d e = next top.rules e (walk-4 a b c d)

pub fault-1 : (a : Text) (rest : List Text) → IsPlain a → walk_fault top [] walk-0 (a ∷ rest) ≡ walk_fault top [] (walk-1 a) rest
fault-1 a rest p = fault_step top a rest 1 nothing_held p

pub fault-2 : (a b : Text) (rest : List Text) → IsPlain b → walk_fault top [] (walk-1 a) (b ∷ rest) ≡ walk_fault top [] (walk-2 a b) rest
fault-2 a b rest p = fault_step top b rest 2 (walk-1 a).held p

pub fault-3 : (a b c : Text) (rest : List Text) → IsPlain c → walk_fault top [] (walk-2 a b) (c ∷ rest) ≡ walk_fault top [] (walk-3 a b c) rest
fault-3 a b c rest p = fault_step top c rest 3 (walk-2 a b).held p

pub fault-4 : (a b c d : Text) (rest : List Text) → IsPlain d → walk_fault top [] (walk-3 a b c) (d ∷ rest) ≡ walk_fault top [] (walk-4 a b c d) rest
fault-4 a b c d rest p = fault_step top d rest 4 (walk-3 a b c).held p

pub fault-5 : (a b c d e : Text) (rest : List Text) → IsPlain e → walk_fault top [] (walk-4 a b c d) (e ∷ rest) ≡ walk_fault top [] (walk-5 a b c d e) rest
fault-5 a b c d e rest p = fault_step top e rest 5 (walk-4 a b c d).held p

pub fault-6 : (a b c d e f : Text) (rest : List Text) → IsPlain f → walk_fault top [] (walk-5 a b c d e) (f ∷ rest) ≡ UnknownArgument ∷ []
fault-6 a b c d e f rest p = fault_step top f rest 6 (walk-5 a b c d e).held p

step-1 : (a : Text) (rest : List Text) → IsPlain a → fold (walked top.rules []) walk-0 (a ∷ rest) ≡ fold (walked top.rules []) (walk-1 a) rest
step-1 a rest p = walk_step top.rules a rest 1 nothing_held p

step-2 : (a b : Text) (rest : List Text) → IsPlain b → fold (walked top.rules []) (walk-1 a) (b ∷ rest) ≡ fold (walked top.rules []) (walk-2 a b) rest
step-2 a b rest p = walk_step top.rules b rest 2 (walk-1 a).held p

step-3 : (a b c : Text) (rest : List Text) → IsPlain c → fold (walked top.rules []) (walk-2 a b) (c ∷ rest) ≡ fold (walked top.rules []) (walk-3 a b c) rest
step-3 a b c rest p = walk_step top.rules c rest 3 (walk-2 a b).held p

step-4 : (a b c d : Text) (rest : List Text) → IsPlain d → fold (walked top.rules []) (walk-3 a b c) (d ∷ rest) ≡ fold (walked top.rules []) (walk-4 a b c d) rest
step-4 a b c d rest p = walk_step top.rules d rest 4 (walk-3 a b c).held p

step-5 : (a b c d e : Text) (rest : List Text) → IsPlain e → fold (walked top.rules []) (walk-4 a b c d) (e ∷ rest) ≡ fold (walked top.rules []) (walk-5 a b c d e) rest
step-5 a b c d e rest p = walk_step top.rules e rest 5 (walk-4 a b c d).held p

-- the walk over so many words, and its faults
end-1 : (a : Text) → IsPlain a → walk top.rules [] nothing_held (a ∷ []) ≡ walk-1 a
end-1 a p = step-1 a [] p

found-1 : (a : Text) → IsPlain a → built_fault path_built nothing_held (a ∷ []) ≡ MissingRequiredArgument ∷ []
unfolding defaults_fault walk_fault
found-1 a p = faults_are path_built (a ∷ []) (walk-1 a) (end-1 a p)
    ∙ ap (λ kinds. or_else kinds (MissingRequiredArgument ∷ [])) (fault-1 a [] p)

end-2 : (a b : Text) → IsPlain a → IsPlain b → walk top.rules [] nothing_held (a ∷ b ∷ []) ≡ walk-2 a b
end-2 a b p q = step-1 a (b ∷ []) p ∙ step-2 a b [] q

found-2 : (a b : Text) → IsPlain a → IsPlain b → built_fault path_built nothing_held (a ∷ b ∷ []) ≡ MissingRequiredArgument ∷ []
unfolding defaults_fault walk_fault
found-2 a b p q = faults_are path_built (a ∷ b ∷ []) (walk-2 a b) (end-2 a b p q)
    ∙ ap (λ kinds. or_else kinds (MissingRequiredArgument ∷ [])) (fault-1 a (b ∷ []) p ∙ fault-2 a b [] q)

end-3 : (a b c : Text) → IsPlain a → IsPlain b → IsPlain c → walk top.rules [] nothing_held (a ∷ b ∷ c ∷ []) ≡ walk-3 a b c
end-3 a b c p q r = step-1 a (b ∷ c ∷ []) p ∙ step-2 a b (c ∷ []) q ∙ step-3 a b c [] r

found-3 : (a b c : Text) → IsPlain a → IsPlain b → IsPlain c → built_fault path_built nothing_held (a ∷ b ∷ c ∷ []) ≡ MissingRequiredArgument ∷ []
unfolding defaults_fault walk_fault
found-3 a b c p q r = faults_are path_built (a ∷ b ∷ c ∷ []) (walk-3 a b c) (end-3 a b c p q r)
    ∙ ap (λ kinds. or_else kinds (MissingRequiredArgument ∷ [])) (fault-1 a (b ∷ c ∷ []) p ∙ fault-2 a b (c ∷ []) q ∙ fault-3 a b c [] r)

end-4 : (a b c d : Text) → IsPlain a → IsPlain b → IsPlain c → IsPlain d → walk top.rules [] nothing_held (a ∷ b ∷ c ∷ d ∷ []) ≡ walk-4 a b c d
end-4 a b c d p q r s = step-1 a (b ∷ c ∷ d ∷ []) p ∙ step-2 a b (c ∷ d ∷ []) q ∙ step-3 a b c (d ∷ []) r ∙ step-4 a b c d [] s

found-4 : (a b c d : Text) → IsPlain a → IsPlain b → IsPlain c → IsPlain d → built_fault path_built nothing_held (a ∷ b ∷ c ∷ d ∷ []) ≡ MissingRequiredArgument ∷ []
unfolding defaults_fault walk_fault
found-4 a b c d p q r s = faults_are path_built (a ∷ b ∷ c ∷ d ∷ []) (walk-4 a b c d) (end-4 a b c d p q r s)
    ∙ ap (λ kinds. or_else kinds (MissingRequiredArgument ∷ [])) (fault-1 a (b ∷ c ∷ d ∷ []) p ∙ fault-2 a b (c ∷ d ∷ []) q ∙ fault-3 a b c (d ∷ []) r ∙ fault-4 a b c d [] s)

end-5 : (a b c d e : Text) → IsPlain a → IsPlain b → IsPlain c → IsPlain d → IsPlain e → walk top.rules [] nothing_held (a ∷ b ∷ c ∷ d ∷ e ∷ []) ≡ walk-5 a b c d e
end-5 a b c d e p q r s t = step-1 a (b ∷ c ∷ d ∷ e ∷ []) p ∙ step-2 a b (c ∷ d ∷ e ∷ []) q ∙ step-3 a b c (d ∷ e ∷ []) r ∙ step-4 a b c d (e ∷ []) s ∙ step-5 a b c d e [] t

found-5 : (a b c d e : Text) → IsPlain a → IsPlain b → IsPlain c → IsPlain d → IsPlain e → built_fault path_built nothing_held (a ∷ b ∷ c ∷ d ∷ e ∷ []) ≡ []
unfolding defaults_fault walk_fault
found-5 a b c d e p q r s t = faults_are path_built (a ∷ b ∷ c ∷ d ∷ e ∷ []) (walk-5 a b c d e) (end-5 a b c d e p q r s t)
    ∙ ap (λ kinds. or_else kinds []) (fault-1 a (b ∷ c ∷ d ∷ e ∷ []) p ∙ fault-2 a b (c ∷ d ∷ e ∷ []) q ∙ fault-3 a b c (d ∷ e ∷ []) r ∙ fault-4 a b c d (e ∷ []) s ∙ fault-5 a b c d e [] t)

path_rows : (a b c d e : Text) → IsPlain a → IsPlain b → IsPlain c → IsPlain d → IsPlain e
    → matches_of (app_for Path) (codes "path" ∷ a ∷ b ∷ c ∷ d ∷ e ∷ []) ≡ finished top.rules (walk-5 a b c d e).held
unfolding app_for command_app
path_rows a b c d e p q r s t = ap (λ (w : Walk). finished top.rules w.held) (end-5 a b c d e p q r s t)

path_five : (a b c d e : Text) → IsPlain a → IsPlain b → IsPlain c → IsPlain d → IsPlain e → request_by Path (codes "path" ∷ a ∷ b ∷ c ∷ d ∷ e ∷ []) ≡ plain_path (a ∷ b ∷ c ∷ d ∷ e ∷ [])
unfolding request_by app_for command_app is_taken value_of path_by cell_at build_at
path_five a b c d e p q r s t = rw (found-5 a b c d e p q r s t, path_rows a b c d e p q r s t) refl

path_none : request_by Path (codes "path" ∷ []) ≡ None
unfolding request_by app_for command_app is_taken clap_on_literals
path_none = refl

pub path_stray : (a b c d e f : Text) (rest : List Text) → IsPlain a → IsPlain b → IsPlain c → IsPlain d → IsPlain e → IsPlain f
    → walk_fault top [] walk-0 (a ∷ b ∷ c ∷ d ∷ e ∷ f ∷ rest) ≡ UnknownArgument ∷ []
path_stray a b c d e f rest p q r s t u = fault-1 a (b ∷ c ∷ d ∷ e ∷ f ∷ rest) p ∙ fault-2 a b (c ∷ d ∷ e ∷ f ∷ rest) q ∙ fault-3 a b c (d ∷ e ∷ f ∷ rest) r
    ∙ fault-4 a b c d (e ∷ f ∷ rest) s ∙ fault-5 a b c d e (f ∷ rest) t ∙ fault-6 a b c d e f rest u

path_few-1 : (a : Text) → IsPlain a → request_by Path (codes "path" ∷ a ∷ []) ≡ None
unfolding request_by app_for command_app is_taken
path_few-1 a p = rw (found-1 a p) refl

path_few-2 : (a b : Text) → IsPlain a → IsPlain b → request_by Path (codes "path" ∷ a ∷ b ∷ []) ≡ None
unfolding request_by app_for command_app is_taken
path_few-2 a b p q = rw (found-2 a b p q) refl

path_few-3 : (a b c : Text) → IsPlain a → IsPlain b → IsPlain c → request_by Path (codes "path" ∷ a ∷ b ∷ c ∷ []) ≡ None
unfolding request_by app_for command_app is_taken
path_few-3 a b c p q r = rw (found-3 a b c p q r) refl

path_few-4 : (a b c d : Text) → IsPlain a → IsPlain b → IsPlain c → IsPlain d → request_by Path (codes "path" ∷ a ∷ b ∷ c ∷ d ∷ []) ≡ None
unfolding request_by app_for command_app is_taken
path_few-4 a b c d p q r s = rw (found-4 a b c d p q r s) refl

path_many : (a b c d e f : Text) (rest : List Text) → IsPlain a → IsPlain b → IsPlain c → IsPlain d → IsPlain e → IsPlain f → request_by Path (codes "path" ∷ a ∷ b ∷ c ∷ d ∷ e ∷ f ∷ rest) ≡ None
unfolding request_by app_for command_app is_taken
path_many a b c d e f rest p q r s t u = rw (path_stray a b c d e f rest p q r s t u) refl

pub plain_path_read : (words : List Text) → AllByRecursion IsPlain words → request_by Path (codes "path" ∷ words) ≡ plain_path words
plain_path_read [] plain = path_none
plain_path_read (a ∷ []) plain = path_few-1 a plain.0
plain_path_read (a ∷ b ∷ []) plain = path_few-2 a b plain.0 plain.1.0
plain_path_read (a ∷ b ∷ c ∷ []) plain = path_few-3 a b c plain.0 plain.1.0 plain.1.1.0
plain_path_read (a ∷ b ∷ c ∷ d ∷ []) plain = path_few-4 a b c d plain.0 plain.1.0 plain.1.1.0 plain.1.1.1.0
plain_path_read (a ∷ b ∷ c ∷ d ∷ e ∷ []) plain = path_five a b c d e plain.0 plain.1.0 plain.1.1.0 plain.1.1.1.0 plain.1.1.1.1.0
plain_path_read (a ∷ b ∷ c ∷ d ∷ e ∷ f ∷ rest) plain = path_many a b c d e f rest plain.0 plain.1.0 plain.1.1.0 plain.1.1.1.0 plain.1.1.1.1.0 plain.1.1.1.1.1.0

pub plain_words_read : PlainWordsAreRead
unfolding request_of verb_named
plain_words_read words plain = (plain_path_read words plain, plain_check_read words plain)
