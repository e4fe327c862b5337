use Rattle.std.proofs.Common.{◌≡◌, ℕ, ◌+◌, List, ◌∷◌, arith, ◌∙◌, ap, sym}
use Rattle.program_tokens.specs.declared.token.Token.{Token}
use Rattle.program_tokens.specs.Tokens.{from_token, line_ends}
use Rattle.program_tokens.specs.steps.Lexing.{behind, cut, tokens_of}
use Rattle.program_tokens.proofs.Lists.{cut_lines, first_token}
use Rattle.program_tokens.proofs.lexer.Lexer.token.Goals as goal

pub returns-clause-taken : goal.returns-clause-taken
returns-clause-taken c =
    let text = c.args.self.now.left.now in
    let rest = c.lexeme.new.self.left.now in
    let lexeme = c.in_ok-lexeme.lexeme in
    let front = c.skip.ensures.front in
    let taken : cut (from_token text) ≡ (lexeme, rest) = ap cut (sym front) ∙ c.in_ok-lexeme.ensures.taken in
    let lines : line_ends rest ≡ line_ends (from_token text) = cut_lines lexeme rest (from_token text) taken in
    let whole : c.skip.new.self.line + line_ends (from_token text) ≡ c.args.self.now.line + line_ends text = ap (λ bytes. c.skip.new.self.line + line_ends bytes) (sym front) ∙ c.skip.ensures.lines in
    let last : c.args.self.now.line + line_ends text ≡ c.lexeme.new.self.line + line_ends rest = omega (arith, c.in_ok-lexeme.ensures.line) in
    first_token (c.args.self.now.line + line_ends text) c.skip.new.self.line text rest lexeme taken whole
    ∙ ap (λ (n : ℕ). let tokens : List Token = record { lexeme = lexeme; line = c.skip.new.self.line } ∷ behind lexeme (tokens_of n rest) in tokens) last
