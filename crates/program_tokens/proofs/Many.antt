-- Readers of many: between commas, up to a mark, and as long as one begins.
use Rattle.std.proofs.Common.{Bool, Err, List, Ok, [], ap, append-nil, append_assoc, arith, codes, cond, false, inl, inr, length, map, refl, subst, suc, sym, zero, ℕ, ◌++◌, ◌<◌, ◌∙◌, ◌∷◌, ◌≡◌, ◌⊎◌}
use Rattle.std.specs.List.{flat_map}
use Rattle.program_tokens.specs.declared.token.Token.{Token}
use Rattle.program_tokens.specs.steps.Parsers.{Parser, and_then, block_from, closed, eat, expect, pure, repeated, separated, separated_from, while_from, ◌>>=◌, ◌>>◌}
use Rattle.program_tokens.specs.Pieces.{comma_separated, Fits, Piece, plain}
use Rattle.program_tokens.specs.Pieces.{each_behind_comma, some_comma_separated}
use Rattle.program_tokens.proofs.Right.{Exactly, Right, RightAt, Spells, Stops, read_shorter, respelled}
use Rattle.program_tokens.proofs.Sequences.{Follows, first_same}
use Rattle.program_tokens.proofs.Choices.{Either, Not, choose_at}
use Rattle.program_tokens.proofs.Firsts.{Free, Heads, Stopping, Unfilled, begins_follows, free_follows, heads_append, heads_some, widened}
use Rattle.program_tokens.proofs.Parts.{Made, exactly, free_part, last_word, made_begins, made_part, nothing_follows, part_at, pure_made, word_at}
use Rattle.program_tokens.proofs.Avoiding.{Avoids, Unseen, eat_at, eat_right, plain_avoids}

-- ---- between commas

module _ {A : Type 0} (leaf : A → List Piece) (stops_item stops : Stops) (item : Parser A) (r : Right (Exactly leaf) stops_item item)
    (some : (a : A) → leaf a ≡ [] → ⊥)
    (comma : Stopping stops_item (plain (codes ",")))
    (ends : (rest : List Token) → stops rest → stops_item rest)
    (no_comma : (rest : List Token) → stops rest → Unseen (codes ",") rest) where
  -- those behind commas
  abbrev behind_commas : List A → List Piece
  behind_commas xs = each_behind_comma (map leaf xs)

  -- one or more behind those found
  abbrev Listed : List A → Spells (List A)
  Listed found = Made {C = A × List A} (λ c. found ++ c.0 ∷ c.1) (λ c. leaf c.0 ++ behind_commas c.1)

  -- one and more behind a comma
  abbrev Another : List A → A → Spells (List A)
  Another found x = Made {C = A × List A} (λ c. (found ++ x ∷ []) ++ c.0 ∷ c.1) (λ c. plain (codes ",") ∷ leaf c.0 ++ behind_commas c.1)

  -- no more
  abbrev NoOther : List A → A → Spells (List A)
  NoOther found x = Made {C = Unit {0}} (λ _. found ++ x ∷ []) (λ _. [])

  -- perhaps more, each behind a comma
  abbrev More : List A → A → Spells (List A)
  More found x = Made (λ xs. found ++ x ∷ xs) behind_commas

  -- another or no other are perhaps more
  more_to : (found : List A) (x : A) (b : List A) (pieces : List Piece) → Either (Another found x) (NoOther found x) b pieces → More found x b pieces
  more_to found x b pieces (inl m) = record { parts = m.parts.0 ∷ m.parts.1; made = m.made ∙ append_assoc found (x ∷ []) (m.parts.0 ∷ m.parts.1); as_parts = m.as_parts }
  more_to found x b pieces (inr m) = record { parts = []; made = m.made; as_parts = m.as_parts }

  -- perhaps more are another or no other
  more_parts : (found : List A) (x : A) (b : List A) (pieces : List Piece) (xs : List A) → b ≡ found ++ x ∷ xs → pieces ≡ behind_commas xs → Either (Another found x) (NoOther found x) b pieces
  more_parts found x b pieces [] e f = inr (record { parts = tt; made = e; as_parts = f })
  more_parts found x b pieces (y ∷ ys) e f = inl (record { parts = (y, ys); made = e ∙ sym (append_assoc found (x ∷ []) (y ∷ ys)); as_parts = f })

  -- more begin with a comma, which stops an item
  comma_first : (piece : Piece) (pieces : List Piece) (xs : List A) (token : Token) (tokens : List Token) → piece ∷ pieces ≡ behind_commas xs → Fits piece token → stops_item (token ∷ tokens)
  comma_first piece pieces [] token tokens e fits = absurd cc
  comma_first piece pieces (x ∷ xs) token tokens e fits = comma token tokens (subst (λ piece. Fits piece token) (first_same piece (plain (codes ",")) pieces _ e) fits)

  -- more, and what follows them, stop an item
  more_follows : (found : List A) (x : A) → Follows (More found x) stops stops_item
  more_follows found x = record {
    some = λ a piece pieces token tokens m fits. comma_first piece pieces m.parts token tokens m.as_parts fits;
    none = λ a rest m stop. ends rest stop;
  }

  -- more are read, where the loop behind a comma is right
  more_at : (found : List A) (x : A) (ts : List Token) (p : Parser (List A)) → ((mid : List Token) → length mid < length ts → RightAt (Listed (found ++ x ∷ [])) stops mid (p mid))
      → RightAt (More found x) stops ts ((eat (codes ",") >>= λ more. cond more p (pure (found ++ x ∷ []))) ts)
  more_at found x ts p r =
      respelled (more_to found x) (λ b pieces m. more_parts found x b pieces m.parts m.made m.as_parts)
      (eat_at (codes ",") (Another found x) (NoOther found x) stops ts p (pure (found ++ x ∷ []))
      (word_at (codes ",") (λ c. (found ++ x ∷ []) ++ c.0 ∷ c.1) (λ c. leaf c.0 ++ behind_commas c.1) stops ts p r
      (record { value = _; pieces = _; spelled = record { parts = (x, []); made = refl; as_parts = refl } }))
      (pure_made {C = Unit {0}} (λ _. found ++ x ∷ []) (λ _. []) stops tt (λ _. refl) (λ _. refl) ts)
      (nothing_follows (λ _. found ++ x ∷ []) stops (Unseen (codes ",")) no_comma))

  -- the loop is right, where its bound is more than the tokens allow
  separated_from_at : (n : ℕ) (found : List A) (ts : List Token) → length ts < n → RightAt (Listed found) stops ts (separated_from item n found ts)
  unfolding separated_from
  separated_from_at zero found ts less = absurd (omega arith)
  separated_from_at (suc n) found ts less =
      part_at (λ c. found ++ c.0 ∷ c.1) leaf behind_commas stops_item stops ts item (λ x. eat (codes ",") >>= λ more. cond more (separated_from item n (found ++ x ∷ [])) (pure (found ++ x ∷ []))) (r ts)
      (λ x mid e. let short = read_shorter (Exactly leaf) ts (item ts) x mid (r ts).sound (λ a e. some a (sym e)) e in
      more_at found x mid (separated_from item n (found ++ x ∷ [])) (λ mid' less'. separated_from_at n (found ++ x ∷ []) mid' (omega arith)))
      (λ x. record { value = _; pieces = _; spelled = record { parts = []; made = refl; as_parts = refl } })
      (λ x. more_follows found x)

  -- one or more, with commas between
  pub separated_made : Right (Made {C = A × List A} (λ c. c.0 ∷ c.1) (λ c. leaf c.0 ++ each_behind_comma (map leaf c.1))) stops (separated item)
  separated_made ts = separated_from_at (suc (length ts)) [] ts (omega arith)

  -- the same, where to have none is to want a place that nothing fills
  pub separated_right : Right (Exactly (λ xs. some_comma_separated (map leaf xs))) stops (separated item)
  separated_right ts = widened to from (separated_made ts)
    where
      to : (xs : List A) (pieces : List Piece) → Made {C = A × List A} (λ c. c.0 ∷ c.1) (λ c. leaf c.0 ++ each_behind_comma (map leaf c.1)) xs pieces → pieces ≡ some_comma_separated (map leaf xs)
      to xs pieces m = m.as_parts ∙ ap (λ xs. some_comma_separated (map leaf xs)) (sym m.made)

      from : (xs : List A) (pieces : List Piece) → pieces ≡ some_comma_separated (map leaf xs) → Made {C = A × List A} (λ c. c.0 ∷ c.1) (λ c. leaf c.0 ++ each_behind_comma (map leaf c.1)) xs pieces ⊎ Heads Unfilled pieces
      from [] pieces e = inr (subst (Heads Unfilled) (sym e) (λ token fits. fits))
      from (x ∷ xs) pieces e = inl (record { parts = (x, xs); made = refl; as_parts = e })

-- ---- up to `)`

module _ {A : Type 0} (leaf : A → List Piece) (stops_item stops : Stops) (item : Parser A) (r : Right (Exactly leaf) stops_item item)
    (first : (a : A) → Heads (Avoids (codes ")")) (leaf a))
    (comma : Stopping stops_item (plain (codes ",")))
    (close : Stopping stops_item (plain (codes ")"))) where
  -- what may follow the last item
  abbrev stops_listed : Stops
  stops_listed rest = stops_item rest × Unseen (codes ",") rest

  -- none
  abbrev NoItems : Spells (List A)
  NoItems = Made {C = Unit {0}} (λ _. []) (λ _. plain (codes ")") ∷ [])

  -- one or more
  abbrev SomeItems : Spells (List A)
  SomeItems = Made {C = (A × List A) × Unit {0}} (λ c. c.0.0 ∷ c.0.1) (λ c. (leaf c.0.0 ++ each_behind_comma (map leaf c.0.1)) ++ plain (codes ")") ∷ [])

  -- one or more, and then `)`
  some_right : Right SomeItems stops (separated item >>= λ found. expect (codes ")") >> pure found)
  some_right = made_part (λ c. c.0 ∷ c.1) (λ c. c.0) (λ c. leaf c.0 ++ each_behind_comma (map leaf c.1)) (λ _. plain (codes ")") ∷ []) stops_listed stops (separated item) (λ found. expect (codes ")") >> pure found)
      (separated_made leaf stops_item stops_listed item r (λ a e. heads_some _ leaf first a (sym e)) comma (λ rest stop. stop.0) (λ rest stop. stop.1))
      (λ found. last_word (codes ")") stops found)
      (λ found. begins_follows _ stops stops_listed (made_begins (Stopping stops_listed) (λ _ token tokens fits. (close token tokens fits, plain_avoids (codes ")") (codes ",") refl token tokens fits))))

  -- none or some are a list
  closed_to : (xs : List A) (pieces : List Piece) → Either NoItems SomeItems xs pieces → pieces ≡ comma_separated (map leaf xs) ++ plain (codes ")") ∷ []
  closed_to xs pieces (inl m) = m.as_parts ∙ ap (λ xs. comma_separated (map leaf xs) ++ plain (codes ")") ∷ []) (sym m.made)
  closed_to xs pieces (inr m) = m.as_parts ∙ ap (λ xs. comma_separated (map leaf xs) ++ plain (codes ")") ∷ []) (sym m.made)

  -- a list is none or some
  closed_from : (xs : List A) (pieces : List Piece) → pieces ≡ comma_separated (map leaf xs) ++ plain (codes ")") ∷ [] → Either NoItems SomeItems xs pieces
  closed_from [] pieces e = inl (record { parts = tt; made = refl; as_parts = e })
  closed_from (x ∷ xs) pieces e = inr (record { parts = ((x, xs), tt); made = refl; as_parts = e })

  -- perhaps none, with commas between, and then `)`
  pub closed_right : Right (Exactly (λ xs. comma_separated (map leaf xs) ++ plain (codes ")") ∷ [])) stops (closed item)
  unfolding closed
  closed_right ts = respelled closed_to closed_from
      (eat_right (codes ")") {one = NoItems} {other = SomeItems} (pure []) (separated item >>= λ found. expect (codes ")") >> pure found)
      (last_word (codes ")") stops [])
      some_right
      (begins_follows SomeItems stops (Unseen (codes ")")) (made_begins (Avoids (codes ")")) (λ c.
      heads_append _ (leaf c.0.0 ++ each_behind_comma (map leaf c.0.1)) _ (heads_append _ (leaf c.0.0) (each_behind_comma (map leaf c.0.1)) (first c.0.0)))))
      ts)

-- ---- up to `}`

module _ {A : Type 0} (leaf : A → List Piece) (stops_item stops : Stops) (item : Parser A) (r : Right (Exactly leaf) stops_item item)
    (first : (a : A) → Heads (Avoids (codes "}")) (leaf a))
    (next : (a : A) → Heads (Stopping stops_item) (leaf a))
    (close : Stopping stops_item (plain (codes "}"))) where
  -- the items and `}`
  abbrev up_to_brace : List A → List Piece
  up_to_brace xs = flat_map leaf xs ++ plain (codes "}") ∷ []

  -- no more, and `}`
  abbrev Done : List A → Spells (List A)
  Done found = Made {C = Unit {0}} (λ _. found) (λ _. plain (codes "}") ∷ [])

  -- one, and more up to `}`
  abbrev Onward : List A → Spells (List A)
  Onward found = Made {C = A × List A} (λ c. found ++ c.0 ∷ c.1) (λ c. leaf c.0 ++ up_to_brace c.1)

  -- those up to the mark, behind those found
  abbrev Blocked : List A → Spells (List A)
  Blocked found = Made (λ xs. found ++ xs) up_to_brace

  -- done or onward are a list
  blocked_to : (found b : List A) (pieces : List Piece) → Either (Done found) (Onward found) b pieces → Blocked found b pieces
  blocked_to found b pieces (inl m) = record { parts = []; made = m.made ∙ sym (append-nil found); as_parts = m.as_parts }
  blocked_to found b pieces (inr m) = record { parts = m.parts.0 ∷ m.parts.1; made = m.made; as_parts = m.as_parts ∙ sym (append_assoc (leaf m.parts.0) (flat_map leaf m.parts.1) (plain (codes "}") ∷ [])) }

  -- a list is done or goes on
  blocked_parts : (found b : List A) (pieces : List Piece) (xs : List A) → b ≡ found ++ xs → pieces ≡ up_to_brace xs → Either (Done found) (Onward found) b pieces
  blocked_parts found b pieces [] e f = inl (record { parts = tt; made = e ∙ append-nil found; as_parts = f })
  blocked_parts found b pieces (x ∷ xs) e f = inr (record { parts = (x, xs); made = e; as_parts = f ∙ append_assoc (leaf x) (flat_map leaf xs) (plain (codes "}") ∷ []) })

  -- an item or `}` comes first
  brace_or_item : (xs : List A) → Heads (Stopping stops_item) (up_to_brace xs)
  brace_or_item [] = close
  brace_or_item (x ∷ xs) = heads_append (Stopping stops_item) (leaf x ++ flat_map leaf xs) (plain (codes "}") ∷ []) (heads_append (Stopping stops_item) (leaf x) (flat_map leaf xs) (next x))

  -- what comes behind an item stops it
  onward_follows : (found : List A) (x : A) → Follows (Made (λ xs. found ++ x ∷ xs) up_to_brace) stops stops_item
  onward_follows found x = begins_follows _ stops stops_item (made_begins (Stopping stops_item) brace_or_item)

  -- the loop is right, where its bound is more than the tokens allow
  block_from_at : (n : ℕ) (found : List A) (ts : List Token) → length ts < n → RightAt (Blocked found) stops ts (block_from item n found ts)
  unfolding block_from
  block_from_at zero found ts less = absurd (omega arith)
  block_from_at (suc n) found ts less =
      respelled (blocked_to found) (λ b pieces m. blocked_parts found b pieces m.parts m.made m.as_parts)
      (eat_at (codes "}") (Done found) (Onward found) stops ts (pure found) (item >>= λ x. block_from item n (found ++ x ∷ []))
      (last_word (codes "}") stops found ts)
      (part_at (λ c. found ++ c.0 ∷ c.1) leaf up_to_brace stops_item stops ts item (λ x. block_from item n (found ++ x ∷ [])) (r ts)
      (λ x mid e. let short = read_shorter (Exactly leaf) ts (item ts) x mid (r ts).sound (heads_some _ leaf first) e in
      respelled (one_more_to found x) (one_more_from found x) (block_from_at n (found ++ x ∷ []) mid (omega arith)))
      (λ x. record { value = _; pieces = _; spelled = record { parts = []; made = refl; as_parts = refl } })
      (onward_follows found))
      (begins_follows (Onward found) stops (Unseen (codes "}")) (made_begins (Avoids (codes "}")) (λ c. heads_append (Avoids (codes "}")) (leaf c.0) (up_to_brace c.1) (first c.0)))))
    where
      one_more_to : (found : List A) (x : A) (b : List A) (pieces : List Piece) → Blocked (found ++ x ∷ []) b pieces → Made (λ xs. found ++ x ∷ xs) up_to_brace b pieces
      one_more_to found x b pieces m = record { parts = m.parts; made = m.made ∙ append_assoc found (x ∷ []) m.parts; as_parts = m.as_parts }

      one_more_from : (found : List A) (x : A) (b : List A) (pieces : List Piece) → Made (λ xs. found ++ x ∷ xs) up_to_brace b pieces → Blocked (found ++ x ∷ []) b pieces
      one_more_from found x b pieces m = record { parts = m.parts; made = m.made ∙ sym (append_assoc found (x ∷ []) m.parts); as_parts = m.as_parts }

  -- one after another, and then `}`
  pub block_from_right : Right (Exactly (λ xs. flat_map leaf xs ++ plain (codes "}") ∷ [])) stops (λ ts. block_from item (suc (length ts)) [] ts)
  block_from_right ts = respelled
      (λ xs pieces m. m.as_parts ∙ ap up_to_brace (sym m.made)) (λ xs pieces e. record { parts = xs; made = refl; as_parts = e })
      (block_from_at (suc (length ts)) [] ts (omega arith))

-- ---- as long as one begins

module _ {A : Type 0} (leaf : A → List Piece) (begins : List Token → Bool) (item : Parser A) (r : Right (Exactly leaf) Free item)
    (first : (a : A) → leaf a ≡ [] → ⊥)
    (refused : (ts : List Token) → begins ts ≡ false → item ts ≡ Err ts) where
  -- one, and more
  abbrev Onward' : List A → Spells (List A)
  Onward' found = Made {C = A × List A} (λ c. found ++ c.0 ∷ c.1) (λ c. leaf c.0 ++ flat_map leaf c.1)

  -- no more
  abbrev NoMore : List A → Spells (List A)
  NoMore found = Made {C = Unit {0}} (λ _. found) (λ _. [])

  -- all that there are, behind those found
  abbrev Many : List A → Spells (List A)
  Many found = Made (λ xs. found ++ xs) (flat_map leaf)

  -- onward or no more are a list
  many_to : (found b : List A) (pieces : List Piece) → Either (Onward' found) (NoMore found) b pieces → Many found b pieces
  many_to found b pieces (inl m) = record { parts = m.parts.0 ∷ m.parts.1; made = m.made; as_parts = m.as_parts }
  many_to found b pieces (inr m) = record { parts = []; made = m.made ∙ sym (append-nil found); as_parts = m.as_parts }

  -- a list goes on or is no more
  many_parts : (found b : List A) (pieces : List Piece) (xs : List A) → b ≡ found ++ xs → pieces ≡ flat_map leaf xs → Either (Onward' found) (NoMore found) b pieces
  many_parts found b pieces [] e f = inr (record { parts = tt; made = e ∙ append-nil found; as_parts = f })
  many_parts found b pieces (x ∷ xs) e f = inl (record { parts = (x, xs); made = e; as_parts = f })

  -- the loop is right, where its bound is more than the tokens allow
  while_from_at : (n : ℕ) (found : List A) (ts : List Token) → length ts < n → RightAt (Many found) (Not begins) ts (while_from begins item n found ts)
  unfolding while_from
  while_from_at zero found ts less = absurd (omega arith)
  while_from_at (suc n) found ts less =
      respelled (many_to found) (λ b pieces m. many_parts found b pieces m.parts m.made m.as_parts)
      (choose_at (Onward' found) (NoMore found) (Not begins) begins ts ((item >>= λ x. while_from begins item n (found ++ x ∷ [])) ts) (Ok (found, ts))
      (λ e. ap (λ o. and_then o (λ x. while_from begins item n (found ++ x ∷ []))) (refused ts e))
      (part_at (λ c. found ++ c.0 ∷ c.1) leaf (flat_map leaf) Free (Not begins) ts item (λ x. while_from begins item n (found ++ x ∷ [])) (r ts)
      (λ x mid e. let short = read_shorter (Exactly leaf) ts (item ts) x mid (r ts).sound (λ a e. first a (sym e)) e in
      respelled (one_more_to found x) (one_more_from found x) (while_from_at n (found ++ x ∷ []) mid (omega arith)))
      (λ x. record { value = _; pieces = _; spelled = record { parts = []; made = refl; as_parts = refl } })
      (λ x. free_follows (Made (λ xs. found ++ x ∷ xs) (flat_map leaf)) (Not begins)))
      (pure_made {C = Unit {0}} (λ _. found) (λ _. []) (Not begins) tt (λ _. refl) (λ _. refl) ts)
      (nothing_follows (λ _. found) (Not begins) (Not begins) (λ rest stop. stop)))
    where
      one_more_to : (found : List A) (x : A) (b : List A) (pieces : List Piece) → Many (found ++ x ∷ []) b pieces → Made (λ xs. found ++ x ∷ xs) (flat_map leaf) b pieces
      one_more_to found x b pieces m = record { parts = m.parts; made = m.made ∙ append_assoc found (x ∷ []) m.parts; as_parts = m.as_parts }

      one_more_from : (found : List A) (x : A) (b : List A) (pieces : List Piece) → Made (λ xs. found ++ x ∷ xs) (flat_map leaf) b pieces → Many (found ++ x ∷ []) b pieces
      one_more_from found x b pieces m = record { parts = m.parts; made = m.made ∙ sym (append_assoc found (x ∷ []) m.parts); as_parts = m.as_parts }

  -- one after another behind those found, as long as the next begins
  repeated_made : (found : List A) → Right (Many found) (Not begins) (repeated begins item found)
  repeated_made found ts = while_from_at (suc (length ts)) found ts (omega arith)

  -- one after another, as long as the next begins
  pub while_from_right : Right (Exactly (flat_map leaf)) (Not begins) (λ ts. while_from begins item (suc (length ts)) [] ts)
  while_from_right = exactly (flat_map leaf) (λ xs. xs) (λ xs. refl) (λ xs. refl) (repeated_made [])

  -- a first, and those like it behind it; to have none is to want a place that nothing fills
  pub first_and_repeated : (first_leaf : A → List Piece) (all : List A → List Piece) → Heads Unfilled (all []) → ((x : A) (xs : List A) → all (x ∷ xs) ≡ first_leaf x ++ flat_map leaf xs)
      → (p : Parser A) → Right (Exactly first_leaf) Free p → Right (Exactly all) (Not begins) (p >>= λ x. repeated begins item (x ∷ []))
  first_and_repeated first_leaf all none some p r' ts = widened to from (free_part {make = λ (c : A × List A). c.0 ∷ c.1} {others = flat_map leaf} r' (λ x. repeated_made (x ∷ [])) ts)
    where
      to : (xs : List A) (pieces : List Piece) → Made {C = A × List A} (λ c. c.0 ∷ c.1) (λ c. first_leaf c.0 ++ flat_map leaf c.1) xs pieces → pieces ≡ all xs
      to xs pieces m = m.as_parts ∙ sym (some m.parts.0 m.parts.1) ∙ ap all (sym m.made)

      from : (xs : List A) (pieces : List Piece) → pieces ≡ all xs → Made {C = A × List A} (λ c. c.0 ∷ c.1) (λ c. first_leaf c.0 ++ flat_map leaf c.1) xs pieces ⊎ Heads Unfilled pieces
      from [] pieces e = inr (subst (Heads Unfilled) (sym e) none)
      from (x ∷ xs) pieces e = inl (record { parts = (x, xs); made = refl; as_parts = e ∙ some x xs })
