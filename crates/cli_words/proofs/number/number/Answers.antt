-- What `number` leaves: a padded text is no digits, and what std reads of another is their number.
use Rattle.std.proofs.Common.{◌≡◌, true, false, ◌∙◌, ap}
use Rattle.cli_words.specs.Padded.{is_padded}
use Rattle.cli_words.proofs.NumberLaws.{decimal_unpadded, parsed, parsed_or_none}
use Rattle.cli_words.proofs.number.number.Goals as goal

pub returns-then-has_padding : goal.returns-then-has_padding
returns-then-has_padding c = record {
  cases = λ n small is.
      let padded : is_padded c.args.text.now ≡ true = cc in
      let bare : is_padded c.args.text.now ≡ false = ap is_padded is ∙ decimal_unpadded n small in
      cc;
}

pub returns : goal.returns
returns c = record {
  cases = parsed_or_none c.args.text.now c.parse.result c.ok.result c.ok.ensures.value
      (parsed c.args.text.now c.parse.result c.parse.ensures.value.0 (let bare : is_padded c.args.text.now ≡ false = cc in bare));
}
