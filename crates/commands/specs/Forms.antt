-- What is printed of a run, and how much of it.
use Rattle.std.specs.Prelude.{◌≡◌, ℕ, Bool, true, false, List, [], Option, Some, None, codes}
use Rattle.std.specs.Option.{IfSome}
use Rattle.clap.specs.Words.{Text}
use Rattle.commands.specs.declared.options.OutputFormat.{OutputFormat}
use Rattle.pictures.specs.declared.shown.Shown.TheVariants as shown
use Rattle.commands.specs.declared.options.OutputFormat.TheVariants.{Lines, Picture, Trace, Writes}

-- whether a flag is given, by what `clap` has for it: `true` if it is, else `false` or nothing
abbrev pub IsFlagBy : Option Text → Bool → Type 0
IsFlagBy None given = given ≡ false
IsFlagBy (Some text) given = (text ≡ codes "true" → given ≡ true) × (text ≡ codes "false" → given ≡ false)

-- what is printed if these flags are given: the trace has precedence, and with the other two it is a picture of the
-- writes
abbrev pub format_of : (picture writes trace : Bool) → OutputFormat
format_of picture writes true = Trace
format_of true true false = Picture shown.Writes
format_of true false false = Picture shown.All
format_of false true false = Writes
format_of false false false = Lines

-- what the flags `--picture`, `--writes` and `--trace` request, by what `clap` has for each
abbrev pub IsFormatBy : (text : Text → Option Text) → OutputFormat → Type 0
IsFormatBy text form = (picture : Bool) × ((writes : Bool) × ((trace : Bool)
    × (IsFlagBy (text (codes "picture")) picture × IsFlagBy (text (codes "writes")) writes × IsFlagBy (text (codes "trace")) trace
    × (form ≡ format_of picture writes trace))))

-- All of the reader's bytes were read, and all of such a text of the input was written, by `Puts`, or a prefix, by
-- `PutsPart`.
abbrev pub WritesBy : (puts : Option (List ℕ) → List ℕ → Option (List ℕ) → Type 0) → (IsText : (input text : List ℕ) → Type 0)
    → (had left before after : Option (List ℕ)) → Type 0
WritesBy puts IsText had left before after =
    IfSome had (λ input. (left ≡ Some []) × ((text : List ℕ) × IsText input text × puts before text after))
