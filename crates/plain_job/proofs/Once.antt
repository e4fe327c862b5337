-- A chain ends in one round, in one way.
use Rattle.std.proofs.Common.{◌≡◌, ◌⊎◌, ℕ, ◌<◌, List, refl, sym, ap, ◌∙◌, inl, inr, map, subst, arith}
use Rattle.std.proofs.lemmas.Bool.{cases_order}
use Rattle.hal_base.specs.declared.record.Record.{Record}
use Rattle.hal_base.specs.declared.shape.Shape.{Shape}
use Rattle.hal_base.specs.Meaning.{Meaning}
use Rattle.hal_base.specs.Lines.{table_text}
use Rattle.plain_job.specs.declared.ending.End.{End}
use Rattle.plain_job.specs.declared.ending.End.TheVariants.{Fixpoint, Close, Limit}
use Rattle.plain_job.specs.Chain.{last_out}
use Rattle.plain_job.specs.ChainLaws.{ChainsAreOne}
use Rattle.plain_job.specs.Ends.{Ends, EndsBy, Reaches}

module _ (m : Meaning) (shape : Shape) (tables : List (List Record)) where
  -- a chain that ends in a round does not come to a later one
  no_later : (i k : ℕ) (end : End) → EndsBy m shape tables i end → i < k → Reaches m shape tables k → ⊥
  no_later i k Fixpoint e l r = absurd (omega (arith, e.2, r.not_before i e.1 l))
  no_later i k Close e l r = absurd (omega (arith, e.2, r.not_before i e.1 l))
  no_later i k Limit e l r = absurd (omega (arith, e.0, r.within.1))

  pub one_round : (i k : ℕ) (end end' : End) → (i ≡ k) ⊎ ((i < k) ⊎ (k < i)) → Ends m shape tables i end → Ends m shape tables k end' → i ≡ k
  one_round i k end end' (inl e) a b = e
  one_round i k end end' (inr (inl l)) a b = absurd (no_later i k end a.by l b.reached)
  one_round i k end end' (inr (inr l)) a b = absurd (no_later k i end' b.by l a.reached)

  pub one_end : (i : ℕ) (end end' : End) → EndsBy m shape tables i end → EndsBy m shape tables i end' → end ≡ end'
  one_end i Fixpoint Fixpoint a b = refl
  one_end i Fixpoint Close a b = cc (a.0, b.0)
  one_end i Fixpoint Limit a b = absurd (omega (arith, a.2, b.1 a.1))
  one_end i Close Fixpoint a b = cc (a.0, b.0)
  one_end i Close Close a b = refl
  one_end i Close Limit a b = absurd (omega (arith, a.2, b.1 a.1))
  one_end i Limit Fixpoint a b = absurd (omega (arith, b.2, a.1 b.1))
  one_end i Limit Close a b = absurd (omega (arith, b.2, a.1 b.1))
  one_end i Limit Limit a b = refl

pub chains_are_one : ChainsAreOne
chains_are_one m shape tables texts texts' rounds rounds' end end' a b =
    let same : rounds ≡ rounds' = one_round m shape tables rounds rounds' end end' (cases_order rounds rounds') a.ends b.ends in (
      a.texts_are ∙ ap (λ k. map table_text (last_out m shape tables k)) same ∙ sym b.texts_are,
      same,
      one_end m shape tables rounds end end' a.ends.by (subst (λ (k : ℕ). EndsBy m shape tables k end') (sym same) b.ends.by),
    )
