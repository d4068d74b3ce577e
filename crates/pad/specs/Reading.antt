-- Which words a line has, and what reading one answers.
use Rattle.std.specs.Prelude.{◌≡◌, ◌≢◌, ◌⊎◌, ℕ, List, Result, Ok, Err, Option, Some, None, slice_index, MatchOption, MatchResult}
use Rattle.std.specs.Borrow.{Bor}
use Rattle.std.specs.Str.{IsUtf8}
use Rattle.std.specs.Str.Iter.{split_whitespace_rest, split_whitespace_steps}
use Rattle.std.specs.declared.str.SplitWhitespace.{SplitWhitespace}
use Rattle.pad.specs.declared.command.Command.{Command}
use Rattle.pad.specs.declared.complaint.Complaint.{Complaint}
use Rattle.pad.specs.declared.complaint.Complaint.TheVariants.{NoText, Unknown, Missing, Unread, Extra}
use Rattle.pad.specs.declared.script.Words.{Words}
use Rattle.pad.specs.Commands.{command_word}

-- a `&str`
abbrev pub Text : Type 0
Text = Bor (List ℕ)

-- the byte of `#`
abbrev pub hash : ℕ
hash = 35

-- the text that is still to be read
abbrev pub text_left : Words → List ℕ
text_left words = split_whitespace_rest words.rest

-- the next word w is none of a comment, and is taken off
abbrev pub Takes : Words → Text → Words → Type 0
Takes before w after = split_whitespace_steps before.rest (Some w) after.rest × (slice_index w.now 0 ≢ hash)

-- no word is left, or the next one begins a comment
abbrev pub IsAtEnd : Words → Type 0
IsAtEnd words = split_whitespace_steps words.rest None words.rest
    ⊎ ((w : Text) × (after : SplitWhitespace) × split_whitespace_steps words.rest (Some w) after × (slice_index w.now 0 ≡ hash))

-- the line has to end here
abbrev pub EndsLine : Words → Result (Unit {0}) Complaint → Words → Type 0
EndsLine before r after = MatchResult r (λ _. IsAtEnd before) (λ c. (w : Text) × Takes before w after × (c ≡ Extra w))

module _ {T E : Type 0} (gives : List ℕ → Result T E → Type 0) where
  -- a word is read as its type reads it
  abbrev pub ReadsAs : Text → Text → Result T Complaint → Type 0
  ReadsAs w what r = MatchResult r (λ v. gives w.now (Ok v)) (λ c. (c ≡ Unread what w) × ((e : E) × gives w.now (Err e)))

  -- the next word is read, and a line that ends before is a complaint
  abbrev pub Reads : Text → Words → Result T Complaint → Words → Type 0
  Reads what before r after = ((w : Text) × Takes before w after × ReadsAs w what r) ⊎ (IsAtEnd before × (r ≡ Err (Missing what)))

  -- the next word is read, and a line that ends before gives another value
  abbrev pub ReadsOr : Text → T → Words → Result T Complaint → Words → Type 0
  ReadsOr what other before r after = ((w : Text) × Takes before w after × ReadsAs w what r) ⊎ (IsAtEnd before × (r ≡ Ok other))

-- the words of a text
abbrev pub IsWordsOf : List ℕ → Words → Type 0
IsWordsOf text words = text_left words ≡ text

-- a text's first word is its command, and one that is no command's word is a complaint
abbrev pub ReadsText : List ℕ → Result (Option (Command × Words)) Complaint → Type 0
ReadsText text r = (words : Words) × IsWordsOf text words × MatchResult r
    (λ found. MatchOption found (IsAtEnd words) (λ x. (w : Text) × Takes words w x.1 × (w.now ≡ command_word x.0)))
    (λ c. (w : Text) × (after : Words) × Takes words w after × (c ≡ Unknown w) × ((k : Command) → w.now ≢ command_word k))

-- a line is read as a text, unless it is none
abbrev pub ReadsLine : List ℕ → Result (Option (Command × Words)) Complaint → Type 0
ReadsLine line r = (IsUtf8 line × ReadsText line r) ⊎ (¬ (IsUtf8 line) × (r ≡ Err NoText))
