use Rattle.cond_syntax.proofs.grammar.KnownWords.{known_words, unknown_word}
use Rattle.cond_syntax.proofs.laws.known_words_mean_a_condition.Goals as goal

pub returns-clause-known : goal.returns-clause-known
returns-clause-known c = known_words

pub returns-clause-unknown : goal.returns-clause-unknown
returns-clause-unknown c = unknown_word
