-- What each word of a line that the code makes is as text.
use Rattle.std.specs.Prelude.{ℕ, List}
use Rattle.std.specs.Fmt.{decimal}
use Rattle.history_text.specs.declared.word.Word.{Word}
use Rattle.history_text.specs.declared.word.Word.TheVariants.{Named, Number, Content, Pairs, Call, Learned}
use Rattle.history_text.specs.Words.{bytes_word, pairs_word, call_word, use_word}

abbrev pub word_text : Word → List ℕ
word_text (Named name) = name.now
word_text (Number n) = decimal n
word_text (Content bytes) = bytes_word bytes.now
word_text (Pairs pairs) = pairs_word pairs.now
word_text (Call call) = call_word call
word_text (Learned u) = use_word u
