use Rattle.std.proofs.Common.{sym}
use Rattle.program_tokens.proofs.Bytes.{word_is_text}
use Rattle.program_tokens.proofs.lexer.Lexer.word.Goals as goal

pub plain-requires-clause-text : goal.plain-requires-clause-text
plain-requires-clause-text c = word_is_text _ (sym c.if-is_word_text.ensures)
