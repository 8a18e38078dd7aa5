-- What is printed is the text of the parts.
use Rattle.std.proofs.Common.{◌≡◌, ◌/◌, ◌%◌, List, ℕ, [], ◌∷◌, ◌++◌, ◌∙◌, append_assoc, unsigned_abs}
use Rattle.mtime_text.specs.Spelling.{capital_t, capital_z, dot, date_text, clock_text, fraction_text, offset_text}
use Rattle.mtime_text.specs.Printed.{year_of, month_of, day_of, printed_text}
use Rattle.mtime_text.proofs.printing.print.Goals as goal

assembled : (start a b d e f g date clock places : List ℕ) → start ≡ [] → a ≡ start ++ date → b ≡ a ++ capital_t ∷ [] → d ≡ b ++ clock → e ≡ d ++ dot ∷ [] → f ≡ e ++ places → g ≡ f ++ capital_z ∷ []
    → g ≡ date ++ capital_t ∷ clock ++ dot ∷ places ++ capital_z ∷ []
assembled start a b d e f g date clock places h₀ h₁ h₂ h₃ h₄ h₅ h₆ = rw (h₆, h₅, h₄, h₃, h₂, h₁, h₀) (simp append_assoc)

pub returns-clause-ok : goal.returns-clause-ok
unfolding printed_text fraction_text offset_text
returns-clause-ok c =
    let s = c.args.seconds in
    let date : date_text (unsigned_abs c.date.result.year) c.date.result.month c.date.result.day ≡ date_text (year_of (s / 86_400)) (month_of (s / 86_400)) (day_of (s / 86_400)) =
    rw (c.date.ensures, c.utc-moment.ensures.year, c.utc-moment.ensures.month, c.utc-moment.ensures.day) in
    let clock : clock_text c.time.result.hour c.time.result.minute c.time.result.second ≡ clock_text (s % 86_400 / 3600) (s % 3600 / 60) (s % 60) =
    rw (c.time.ensures, c.utc-moment.ensures.hour, c.utc-moment.ensures.minute, c.utc-moment.ensures.second) in
    let text = assembled _ _ _ _ _ _ _ _ _ _ c.in_ok-text.ensures.bytes c.in_ok-push_date.ensures.ok c.in_ok-push_byte.ensures.ok c.in_ok-push_clock.ensures.ok c.in_ok-push_byte-2.ensures.ok c.in_ok-push_number.ensures.ok c.in_ok-push_byte-3.ensures.ok in
    c.from_string.ensures.bytes ∙ (rw (date, clock) at text)
