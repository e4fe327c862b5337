-- The list of a text's tokens: it is cut one token after another, and there is no other.
use Rattle.std.proofs.Common.{◌≡◌, ℕ, zero, suc, ◌<◌, ◌≤◌, ◌+◌, ◌-◌, true, false, cond, nat_eq, List, [], ◌∷◌, refl, sym, ap, ◌∙◌, subst, length, arith, true≢false}
use Rattle.program_tokens.specs.declared.token.Lexeme.{Lexeme}
use Rattle.program_tokens.specs.declared.token.Lexeme.TheVariants.{Plain, Int, Quoted, Bad, End}
use Rattle.program_tokens.specs.declared.token.Token.{Token}
use Rattle.program_tokens.specs.steps.Lexing.{Cut, behind, cut, first_tokens, tokens_of}
use Rattle.program_tokens.specs.Tokens.{AreTokens, AreTokensOf, Follows, HasNoToken, IsSpelled, StandsBefore, TextHasOneTokenList, behind_comment, from_token, is_blank, line_ends}
use Rattle.program_tokens.specs.steps.Front.{AreSpelled, is_spelled}
use Rattle.program_tokens.proofs.Cutting.{CutStands, cut_again, cut_found}
use Rattle.program_tokens.proofs.Spelled.{IsLeft, left_behind}

-- ---- what is skipped

-- less is left behind what is skipped
pub record IsBehind (rest text : List ℕ) : Type 0 where
  pub lines : line_ends rest ≤ line_ends text
  pub length : length rest ≤ length text

-- one byte more in front
further : (b : ℕ) (rest text : List ℕ) → IsBehind rest text → IsBehind rest (b ∷ text)
further b rest text i =
    let lines = i.lines in
    let shorter = i.length in
    elim (nat_eq b 10) as (λ t. nat_eq b 10 ≡ t → IsBehind rest (b ∷ text)) [
      | true ↦ λ t. record { lines = rw t (omega arith); length = omega arith }
      | false ↦ λ t. record { lines = rw t lines; length = omega arith }
    ] refl

-- blanks and comments leave less
mutual
  pub skipped : (text : List ℕ) → IsBehind (from_token text) text
  skipped [] = record { lines = omega arith; length = omega arith }
  skipped (b ∷ text) =
      elim (is_blank b) as (λ t. is_blank b ≡ t → IsBehind (from_token (b ∷ text)) (b ∷ text)) [
        | true ↦ λ t. rw t (further b (from_token text) text (skipped text))
        | false ↦ λ t. rw t (elim (nat_eq b 35) as (λ c. IsBehind (cond c (behind_comment text) (b ∷ text)) (b ∷ text)) [
          | true ↦ further b (behind_comment text) text (comment_skipped text)
          | false ↦ record { lines = omega arith; length = omega arith }
        ])
      ] refl

  comment_skipped : (text : List ℕ) → IsBehind (behind_comment text) text
  comment_skipped [] = record { lines = omega arith; length = omega arith }
  comment_skipped (b ∷ text) =
      elim (nat_eq b 10) as (λ t. IsBehind (cond t (from_token text) (behind_comment text)) (b ∷ text)) [
        | true ↦ further b (from_token text) text (skipped text)
        | false ↦ further b (behind_comment text) text (comment_skipped text)
      ]

-- ---- what is cut

found_left : (lexeme : Lexeme) (rest text : List ℕ) → CutStands lexeme rest text → is_spelled lexeme ≡ true → IsLeft rest text
found_left (Plain word) rest text f s = left_behind (Plain word) rest text f
found_left (Int n) rest text f s = left_behind (Int n) rest text f
found_left (Quoted quoted) rest text f s = left_behind (Quoted quoted) rest text f
found_left Bad rest text f s = cc
found_left End rest text f s = cc

-- less is left behind a token that is cut
cut_left : (text : List ℕ) → is_spelled (cut text).0 ≡ true → IsLeft (cut text).1 text
cut_left [] s = cc
cut_left (b ∷ text) s = found_left (cut (b ∷ text)).0 (cut (b ∷ text)).1 (b ∷ text) (cut_found b text) s

found_lines : (lexeme : Lexeme) (rest text : List ℕ) → CutStands lexeme rest text → line_ends rest ≡ line_ends text
found_lines (Plain word) rest text f = (left_behind (Plain word) rest text f).lines
found_lines (Int n) rest text f = (left_behind (Int n) rest text f).lines
found_lines (Quoted quoted) rest text f = (left_behind (Quoted quoted) rest text f).lines
found_lines Bad rest text f = ap line_ends f
found_lines End rest text f = absurd f

lines_behind : (text : List ℕ) → line_ends (cut text).1 ≡ line_ends text
lines_behind [] = refl
lines_behind (b ∷ text) = found_lines (cut (b ∷ text)).0 (cut (b ∷ text)).1 (b ∷ text) (cut_found b text)

-- no line ends in a token that is cut
pub cut_lines : (lexeme : Lexeme) (rest text : List ℕ) → cut text ≡ (lexeme, rest) → line_ends rest ≡ line_ends text
cut_lines lexeme rest text e = sym (ap (λ (c : Cut). line_ends c.1) e) ∙ lines_behind text

-- ---- one token after another

-- what is behind a token counts only where it goes before others
behind_same : (lexeme : Lexeme) (xs ys : List Token) → (is_spelled lexeme ≡ true → xs ≡ ys) → behind lexeme xs ≡ behind lexeme ys
behind_same (Plain word) xs ys e = e refl
behind_same (Int n) xs ys e = e refl
behind_same (Quoted text) xs ys e = e refl
behind_same Bad xs ys e = refl
behind_same End xs ys e = refl

-- a token of these two
abbrev made : Lexeme → ℕ → Token
made lexeme line = record { lexeme = lexeme; line = line }

-- a bound above the text's length changes nothing
more_fuel : (n m last : ℕ) (text : List ℕ) → length text < n → length text < m → first_tokens n last text ≡ first_tokens m last text
unfolding first_tokens
more_fuel zero m last text a b = absurd (omega arith)
more_fuel (suc n) zero last text a b = absurd (omega arith)
more_fuel (suc n) (suc m) last text a b =
    let t = from_token text in
    let c = cut t in
    ap (λ tokens. record { lexeme = c.0; line = last - line_ends t } ∷ tokens) (behind_same c.0 (first_tokens n last c.1) (first_tokens m last c.1) (λ s.
    let k = skipped text in
    let l = cut_left t s in
    let shorter : length c.1 < length t = l.shorter in
    let within : length t ≤ length text = k.length in
    more_fuel n m last c.1 (omega arith) (omega arith)))

-- the tokens of a text are the one that is cut, and those behind it
tokens_step : (last : ℕ) (text : List ℕ) → tokens_of last text ≡ record { lexeme = (cut (from_token text)).0; line = last - line_ends (from_token text) } ∷ behind (cut (from_token text)).0 (tokens_of last (cut (from_token text)).1)
unfolding tokens_of first_tokens
tokens_step last text =
    let t = from_token text in
    let c = cut t in
    ap (λ tokens. record { lexeme = c.0; line = last - line_ends t } ∷ tokens) (behind_same c.0 (first_tokens (length text) last c.1) (first_tokens (suc (length c.1)) last c.1) (λ s.
    let k = skipped text in
    let l = cut_left t s in
    let shorter : length c.1 < length t = l.shorter in
    let within : length t ≤ length text = k.length in
    more_fuel (length text) (suc (length c.1)) last c.1 (omega arith) (omega arith)))

-- the first token of a text, and the others
pub first_token : (last line : ℕ) (text rest : List ℕ) (lexeme : Lexeme) → cut (from_token text) ≡ (lexeme, rest) → line + line_ends (from_token text) ≡ last → tokens_of last text ≡ record { lexeme = lexeme; line = line } ∷ behind lexeme (tokens_of last rest)
first_token last line text rest lexeme e l =
    let t = from_token text in
    let whole = λ (c : Cut) (n : ℕ). let tokens : List Token = record { lexeme = c.0; line = n } ∷ behind c.0 (tokens_of last c.1) in tokens in
    let here : last - line_ends t ≡ line = omega arith in
    tokens_step last text ∙ (ap (λ (c : Cut). whole c (last - line_ends t)) e ∙ ap (λ (n : ℕ). whole (lexeme, rest) n) here)

-- ---- they are the tokens of the text

-- where nothing is cut, no token stands
no_token : (b : ℕ) (text rest : List ℕ) → cut (b ∷ text) ≡ (Bad, rest) → HasNoToken (b ∷ text)
no_token b text rest e = record {
  some = λ n. cc;
  none = λ lexeme behind_it s.
      let other : (lexeme, behind_it) ≡ (Bad, rest) = sym (cut_again lexeme behind_it (b ∷ text) s) ∙ e in
      let bad : lexeme ≡ Bad = ap (λ (c : Cut). c.0) other in
      subst IsSpelled bad s.is;
}

-- what is cut follows
follows_cut : (last b : ℕ) (text rest : List ℕ) (lexeme : Lexeme) (tokens : List Token) → cut (b ∷ text) ≡ (lexeme, rest) → CutStands lexeme rest (b ∷ text) → (StandsBefore lexeme rest (b ∷ text) → AreTokens last rest tokens) → Follows lexeme (b ∷ text) (behind lexeme tokens) (λ rest. AreTokens last rest (behind lexeme tokens))
follows_cut last b text rest (Plain word) tokens e f on = (rest, f, on f)
follows_cut last b text rest (Int n) tokens e f on = (rest, f, on f)
follows_cut last b text rest (Quoted quoted) tokens e f on = (rest, f, on f)
follows_cut last b text rest Bad tokens e f on = (no_token b text rest e, refl)
follows_cut last b text rest End tokens e f on = absurd f

follows_first : (n last : ℕ) (text : List ℕ) → ((rest : List ℕ) → length rest < length text → line_ends rest ≡ line_ends text → AreTokens last rest (first_tokens n last rest)) → Follows (cut text).0 text (behind (cut text).0 (first_tokens n last (cut text).1)) (λ rest. AreTokens last rest (behind (cut text).0 (first_tokens n last (cut text).1)))
follows_first n last [] on = (refl, refl)
follows_first n last (b ∷ text) on =
    let c = cut (b ∷ text) in
    follows_cut last b text c.1 c.0 (first_tokens n last c.1) refl (cut_found b text) (λ s. let l = left_behind c.0 c.1 (b ∷ text) s in on c.1 l.shorter l.lines)

-- with any bound above the text's length
are_tokens : (n last : ℕ) (text : List ℕ) → length text < n → line_ends text ≤ last → AreTokens last text (first_tokens n last text)
unfolding first_tokens
are_tokens zero last text a l = absurd (omega arith)
are_tokens (suc n) last text a l =
    let t = from_token text in
    let k = skipped text in
    let fewer : line_ends t ≤ line_ends text = k.lines in
    let within : length t ≤ length text = k.length in
    (omega arith, follows_first n last t (λ rest shorter lines. are_tokens n last rest (omega arith) (omega arith)))

-- what is cut of a text are its tokens
pub tokens_are : (text : List ℕ) → AreTokensOf text (tokens_of (1 + line_ends text) text)
unfolding tokens_of
tokens_are text = are_tokens (suc (length text)) (1 + line_ends text) text (omega arith) (omega arith)

-- ---- and can be spelled

follows_spelled : (lexeme : Lexeme) (text : List ℕ) (tokens : List Token) (on : List ℕ → Type 0) → Follows lexeme text tokens on → ((rest : List ℕ) → on rest → AreSpelled tokens) → (is_spelled lexeme ≡ true → IsSpelled lexeme) × AreSpelled tokens
follows_spelled (Plain word) text tokens on f more = (λ s. f.1.is, more f.0 f.2)
follows_spelled (Int n) text tokens on f more = (λ s. f.1.is, more f.0 f.2)
follows_spelled (Quoted quoted) text tokens on f more = (λ s. f.1.is, more f.0 f.2)
follows_spelled Bad text tokens on f more = (λ s. absurd (true≢false (sym s)), subst AreSpelled (sym f.1) tt)
follows_spelled End text tokens on f more = (λ s. absurd (true≢false (sym s)), subst AreSpelled (sym f.1) tt)

-- the tokens of a text can be spelled
pub are_spelled : (last : ℕ) (text : List ℕ) (tokens : List Token) → AreTokens last text tokens → AreSpelled tokens
are_spelled last text [] a = absurd a
are_spelled last text (token ∷ tokens) a = follows_spelled token.lexeme (from_token text) tokens (λ rest. AreTokens last rest tokens) a.1 (λ rest on. are_spelled last rest tokens on)

-- so can those of what is left of a text, whatever the number of its line is
pub left_spelled : (line : ℕ) (text : List ℕ) → AreSpelled (tokens_of (line + line_ends text) text)
unfolding tokens_of
left_spelled line text = are_spelled (line + line_ends text) text (first_tokens (suc (length text)) (line + line_ends text) text) (are_tokens (suc (length text)) (line + line_ends text) text (omega arith) (omega arith))

-- and those behind a token, if it goes before others
pub behind_spelled : (lexeme : Lexeme) (tokens : List Token) → AreSpelled tokens → AreSpelled (behind lexeme tokens)
behind_spelled (Plain word) tokens s = s
behind_spelled (Int n) tokens s = s
behind_spelled (Quoted text) tokens s = s
behind_spelled Bad tokens s = tt
behind_spelled End tokens s = tt

-- ---- and there are no others

-- what is behind a token, if anything
abbrev Behind : Lexeme → List ℕ → List Token → (List ℕ → Type 0) → Type 0
Behind (Plain word) rest tokens on = on rest
Behind (Int n) rest tokens on = on rest
Behind (Quoted text) rest tokens on = on rest
Behind Bad rest tokens on = tokens ≡ []
Behind End rest tokens on = tokens ≡ []

stands_behind : (lexeme : Lexeme) (rest : List ℕ) (tokens : List Token) (on : List ℕ → Type 0) → IsSpelled lexeme → on rest → Behind lexeme rest tokens on
stands_behind (Plain word) rest tokens on s o = o
stands_behind (Int n) rest tokens on s o = o
stands_behind (Quoted text) rest tokens on s o = o
stands_behind Bad rest tokens on s o = absurd s
stands_behind End rest tokens on s o = absurd s

-- what follows is what is cut
record IsCut (lexeme : Lexeme) (text : List ℕ) (tokens : List Token) (on : List ℕ → Type 0) : Type 0 where
  pub first : (cut text).0 ≡ lexeme
  pub others : Behind (cut text).0 (cut text).1 tokens on

standing_is_cut : (lexeme : Lexeme) (rest text : List ℕ) (tokens : List Token) (on : List ℕ → Type 0) → StandsBefore lexeme rest text → on rest → IsCut lexeme text tokens on
standing_is_cut lexeme rest text tokens on s o =
    let e = cut_again lexeme rest text s in
    record {
      first = ap (λ (c : Cut). c.0) e;
      others = subst (λ (c : Cut). Behind c.0 c.1 tokens on) (sym e) (stands_behind lexeme rest tokens on s.is o);
    }

none_is_cut : (lexeme : Lexeme) (rest text : List ℕ) (tokens : List Token) (on : List ℕ → Type 0) → CutStands lexeme rest text → HasNoToken text → tokens ≡ [] → (lexeme ≡ Bad) × Behind lexeme rest tokens on
none_is_cut (Plain word) rest text tokens on f n e = absurd (n.none (Plain word) rest f)
none_is_cut (Int i) rest text tokens on f n e = absurd (n.none (Int i) rest f)
none_is_cut (Quoted quoted) rest text tokens on f n e = absurd (n.none (Quoted quoted) rest f)
none_is_cut Bad rest text tokens on f n e = (refl, e)
none_is_cut End rest text tokens on f n e = absurd f

bad_is_cut : (text : List ℕ) (tokens : List Token) (on : List ℕ → Type 0) → HasNoToken text → tokens ≡ [] → IsCut Bad text tokens on
bad_is_cut [] tokens on n e = absurd (n.some refl)
bad_is_cut (b ∷ text) tokens on n e = let r = none_is_cut (cut (b ∷ text)).0 (cut (b ∷ text)).1 (b ∷ text) tokens on (cut_found b text) n e in record { first = r.0; others = r.1 }

end_is_cut : (text : List ℕ) (tokens : List Token) (on : List ℕ → Type 0) → text ≡ [] → tokens ≡ [] → IsCut End text tokens on
end_is_cut [] tokens on n e = record { first = refl; others = e }
end_is_cut (b ∷ text) tokens on n e = cc

follows_is_cut : (lexeme : Lexeme) (text : List ℕ) (tokens : List Token) (on : List ℕ → Type 0) → Follows lexeme text tokens on → IsCut lexeme text tokens on
follows_is_cut (Plain word) text tokens on f = standing_is_cut (Plain word) f.0 text tokens on f.1 f.2
follows_is_cut (Int n) text tokens on f = standing_is_cut (Int n) f.0 text tokens on f.1 f.2
follows_is_cut (Quoted quoted) text tokens on f = standing_is_cut (Quoted quoted) f.0 text tokens on f.1 f.2
follows_is_cut Bad text tokens on f = bad_is_cut text tokens on f.0 f.1
follows_is_cut End text tokens on f = end_is_cut text tokens on f.0 f.1

same_behind : (last : ℕ) (lexeme : Lexeme) (rest : List ℕ) (some others : List Token) → (AreTokens last rest some → AreTokens last rest others → some ≡ others) → Behind lexeme rest some (λ rest. AreTokens last rest some) → Behind lexeme rest others (λ rest. AreTokens last rest others) → some ≡ others
same_behind last (Plain word) rest some others same a b = same a b
same_behind last (Int n) rest some others same a b = same a b
same_behind last (Quoted text) rest some others same a b = same a b
same_behind last Bad rest some others same a b = a ∙ sym b
same_behind last End rest some others same a b = a ∙ sym b

same_token : (some other : Token) → some.lexeme ≡ other.lexeme → some.line ≡ other.line → some ≡ other
same_token some other e l =
    let changed : some ≡ made other.lexeme some.line = ap (λ lexeme. made lexeme some.line) e in
    changed ∙ ap (λ line. made other.lexeme line) l

-- two lists of tokens of one text are equal
same_lists : (last : ℕ) (text : List ℕ) (some others : List Token) → AreTokens last text some → AreTokens last text others → some ≡ others
same_lists last text [] others a b = absurd a
same_lists last text (token ∷ tokens) [] a b = absurd b
same_lists last text (token ∷ tokens) (other ∷ others) a b =
    let t = from_token text in
    let c = follows_is_cut token.lexeme t tokens (λ rest. AreTokens last rest tokens) a.1 in
    let d = follows_is_cut other.lexeme t others (λ rest. AreTokens last rest others) b.1 in
    let here = a.0 in
    let there = b.0 in
    let first : token ≡ other = same_token token other (sym c.first ∙ d.first) (omega arith) in
    let rest = same_behind last (cut t).0 (cut t).1 tokens others (same_lists last (cut t).1 tokens others) c.others d.others in
    ap (λ (x : Token). x ∷ tokens) first ∙ ap (λ (xs : List Token). other ∷ xs) rest

-- a text has one list of tokens
pub one_list : TextHasOneTokenList
one_list text some others a b = same_lists (1 + line_ends text) text some others a b
