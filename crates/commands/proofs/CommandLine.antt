-- What a parse by the grammar says of the arguments.
use Rattle.std.proofs.Common.{◌≡◌, Bool, true, false, ◌||◌, List, [], ◌∷◌, inl, inr, refl, ap, sym, subst, ◌∙◌}
use Rattle.std.proofs.Math.Bool.{true-or, or-true}
use Rattle.std.specs.List.{list_any}
use Rattle.clap.specs.Kinds.{HasKind, IsAmong, Kinds}
use Rattle.clap.specs.Words.{App, Text, fault_of, is_simple_and_free, kind_of, subcommand_of}
use Rattle.clap.specs.declared.error.Error.{Error}
use Rattle.clap.specs.declared.error.kind.ErrorKind.{ErrorKind}
use Rattle.clap.specs.declared.error.kind.ErrorKind.TheVariants.{OutOfMemory}
use Rattle.clap.proofs.OnLiterals.{clap_on_literals}
use Rattle.commands.specs.Grammar.{NoWork, Word, asked, faults_of, is_mistake, is_request, stsctl_app, word_of}
use Rattle.commands.proofs.Serving.{false-true}

-- a kind that passes the test is among the kinds
pub list_any-among : (test : ErrorKind → Bool) (kind : ErrorKind) (kinds : Kinds) → IsAmong kind kinds → test kind ≡ true
    → list_any test kinds ≡ true
list_any-among test kind [] among holds = absurd among
list_any-among test kind (k ∷ ks) (inl same) holds =
    let P : Bool → Type 0 = λ b. (b || list_any test ks) ≡ true in
    subst P (sym (sym (ap test same) ∙ holds)) (true-or (list_any test ks))
list_any-among test kind (k ∷ ks) (inr among) holds =
    ap (λ b. test k || b) (list_any-among test kind ks among holds) ∙ or-true (test k)

-- an error's kind passes the test, which out of memory does not, so a kind of the arguments' faults does
pub list_any-kind : (test : ErrorKind → Bool) (error : Error) (kinds : Kinds) → (test OutOfMemory ≡ true → ⊥) → HasKind kinds error
    → test (kind_of error) ≡ true → list_any test kinds ≡ true
list_any-kind test error kinds not_memory (inl memory) holds = absurd (not_memory (sym (ap test memory) ∙ holds))
list_any-kind test error kinds not_memory (inr among) holds = list_any-among test (kind_of error) kinds among holds

-- an error's kind does not pass a test that none of the arguments' faults passes, nor out of memory
pub no_kind : (test : ErrorKind → Bool) (error : Error) (kinds : Kinds) → (test OutOfMemory ≡ true → ⊥) → HasKind kinds error
    → list_any test kinds ≡ false → test (kind_of error) ≡ false
no_kind test error kinds not_memory has none = go (test (kind_of error)) refl
  where
    go : (b : Bool) → test (kind_of error) ≡ b → b ≡ false
    go false is = refl
    go true is = absurd (false-true (sym none ∙ list_any-kind test error kinds not_memory has is))

stsctl-is_free : is_simple_and_free stsctl_app ≡ true
unfolding clap_on_literals
stsctl-is_free = refl

is_free-of : (app : App) → app ≡ stsctl_app → is_simple_and_free app ≡ true
is_free-of app same = ap is_simple_and_free same ∙ stsctl-is_free

faults_of-app : (app : App) (words : List Text) → app ≡ stsctl_app → fault_of app words ≡ faults_of words
unfolding faults_of
faults_of-app app words same = ap (λ a. fault_of a words) same

pub failed : (app : App) (words : List Text) (error : Error) → app ≡ stsctl_app
    → (is_simple_and_free app ≡ true → HasKind (fault_of app words) error) → HasKind (faults_of words) error
failed app words error same kinds =
    let P : Kinds → Type 0 = λ k. HasKind k error in
    subst P (faults_of-app app words same) (kinds (is_free-of app same))

pub parsed : (app : App) (words : List Text) → app ≡ stsctl_app
    → (is_simple_and_free app ≡ true → fault_of app words ≡ []) → faults_of words ≡ []
parsed app words same kinds = sym (faults_of-app app words same) ∙ kinds (is_free-of app same)

-- it is a command
abbrev pub IsWork : Word → Type 0
IsWork NoWork = ⊥
IsWork _ = Unit {0}

-- arguments with a command have no fault
no_fault : (words : List Text) (word : Word) → asked words ≡ word → IsWork word → faults_of words ≡ []
unfolding asked
no_fault words word is work = go (faults_of words) is
  where
    go : (kinds : Kinds) → word_of kinds (subcommand_of stsctl_app words) ≡ word → kinds ≡ []
    go [] same = refl
    go (kind ∷ kinds) same = absurd (subst IsWork (sym same) work)

-- if arguments with a command are not read, memory ran out
pub only_memory : (error : Error) (words : List Text) (word : Word) → HasKind (faults_of words) error → asked words ≡ word → IsWork word
    → kind_of error ≡ OutOfMemory
only_memory error words word has is work =
    elim (subst (λ k. HasKind k error) (no_fault words word is work) has) [
      | inl memory ↦ memory
      | inr among ↦ absurd among
    ]

-- such arguments are neither a request for help nor bad
pub no_request : (error : Error) (words : List Text) (word : Word) → HasKind (faults_of words) error → asked words ≡ word → IsWork word
    → is_request (kind_of error) ≡ true → ⊥
no_request error words word has is work request = false-true (sym (ap is_request (only_memory error words word has is work)) ∙ request)

pub no_mistake : (error : Error) (words : List Text) (word : Word) → HasKind (faults_of words) error → asked words ≡ word → IsWork word
    → is_mistake (kind_of error) ≡ true → ⊥
no_mistake error words word has is work mistake = false-true (sym (ap is_mistake (only_memory error words word has is work)) ∙ mistake)
