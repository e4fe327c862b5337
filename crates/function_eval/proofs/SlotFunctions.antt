-- A function with slots means what the function with names means.
use Rattle.std.proofs.Common.{◌≡◌, ℕ, ◌==◌, suc, cond, List, [], ◌∷◌, Option, None, Some, option_map, refl, sym, ap, ap₂, ◌∙◌, length, map}
use Rattle.std.proofs.lemmas.List.{append-nil, length-map}
use Rattle.hal_base.specs.Parts.{default_part}
use Rattle.hal_base.specs.declared.record.Record.{Record}
use Rattle.hal_base.specs.declared.value.Value.{Value}
use Rattle.hal_base.specs.declared.value.Value.TheVariants as value
use Rattle.function_language.specs.declared.tree.Function.{Function}
use Rattle.function_language.specs.declared.tree.Function.TheVariants.{Map, Reduce, Distance, Partition}
use Rattle.function_language.specs.declared.tree.Statement.{Statement}
use Rattle.operations.specs.Applied.{at_least_zero}
use Rattle.function_eval.specs.declared.running.Running.{Running}
use Rattle.function_meaning.specs.Expressions.{Named}
use Rattle.function_meaning.specs.Functions.{distance_gives, key_named, map_emits, partition_gives, ran, reduce_emits}
use Rattle.function_meaning.specs.Optional.{◌>>=◌}
use Rattle.function_eval.specs.steps.Resolved.{all_resolved, function_resolved, param_text, scope_of, stream_text}
use Rattle.function_eval.specs.steps.Slots.{given_of, out_of, slot_distance, slot_map, slot_partition, slot_ran, slot_reduce}
use Rattle.function_meaning.specs.Statements.{Call, State, start}
use Rattle.function_eval.proofs.SlotExpressions.{names, things}
use Rattle.function_eval.proofs.SlotMeanings.{body_means, paired_bind, placed}

-- a body with slots does what the body does, from its first statement on
body_ran : (round : Option ℕ) (params : Named Value) (groups : Named (List (List Value))) (body : List Statement) →
    slot_ran round (things groups) (things params) (all_resolved (scope_of (names params) (names groups)) body) ≡ option_map (placed (record { round = round; params = params; groups = groups })) (ran round params groups body)
body_ran round params groups body =
    ap (λ pairs. slot_ran round (things groups) (things pairs) (all_resolved (scope_of (names params) (names groups)) body)) (sym (append-nil params))
    ∙ body_means (record { round = round; params = params; groups = groups }) body start

-- what is taken from the state behind the body
taken : {A : Type 0} (call : Call) (f : Running → A) (g : State → A) → ((s : State) → f (placed call s) ≡ g s) → (o : Option State) → option_map f (option_map (placed call) o) ≡ (o >>= (λ done. Some (g done)))
taken call f g h None = refl
taken call f g h (Some s) = ap (λ a. Some a) (h s)

-- the same, for pairs of these names and things
ran_by : {A : Type 0} (round : Option ℕ) (params groups : _) (body : List Statement) (ns streams : List (List ℕ)) (values : List Value) (lists : List (List (List Value))) (f : Running → A) (g : State → A) →
    ((s : State) → f (placed (record { round = round; params = params; groups = groups }) s) ≡ g s) →
    names params ≡ ns → things params ≡ values → names groups ≡ streams → things groups ≡ lists →
    (ran round params groups body >>= (λ done. Some (g done))) ≡ option_map f (slot_ran round lists values (all_resolved (scope_of ns streams) body))
ran_by round params groups body ns streams values lists f g h a b c d =
    sym (taken (record { round = round; params = params; groups = groups }) f g h (ran round params groups body))
    ∙ ap (option_map f) (sym (body_ran round params groups body)
    ∙ ap₂ (λ scope lists. slot_ran round lists (things params) (all_resolved scope body)) (ap₂ scope_of a c) d
    ∙ ap (λ values. slot_ran round lists values (all_resolved (scope_of ns streams) body)) b)

twice : {A B C : Type 0} (f : A → B) (g : B → C) (o : Option A) → option_map g (option_map f o) ≡ option_map (λ a. g (f a)) o
twice f g None = refl
twice f g (Some a) = refl

pub map_means : (round : ℕ) (f : Function) (row : Record) → slot_map round (function_resolved f) row ≡ map_emits round f row
map_means round (Map name params arrow out body) row =
    sym (
    paired_bind (map param_text params) (row.key ∷ row.fields)
    (λ values. ran (Some round) values [] body >>= (λ done. Some done.out))
    (λ xs. option_map out_of (slot_ran (Some round) [] xs (all_resolved (scope_of (map param_text params) []) body)))
    (λ pairs a b. ran_by (Some round) pairs [] body (map param_text params) [] (row.key ∷ row.fields) [] out_of (λ s. s.out) (λ s. refl) a b refl refl)
    ∙ ap (λ n. cond (suc (length row.fields) == n) (option_map out_of (slot_ran (Some round) [] (row.key ∷ row.fields) (all_resolved (scope_of (map param_text params) []) body))) None) (length-map params param_text))
map_means round (Reduce name key streams arrow out body) row = refl
map_means round (Distance name key before after body) row = refl
map_means round (Partition name key body) row = refl

pub reduce_means : (round : ℕ) (f : Function) (key : Value) (groups : List (List (List Value))) → slot_reduce round (function_resolved f) key groups ≡ reduce_emits round f key groups
reduce_means round (Map name params arrow out body) key groups = refl
reduce_means round (Reduce name param streams arrow out body) key groups =
    sym (
    paired_bind (map stream_text streams) groups
    (λ known. ran (Some round) (key_named param key) known body >>= (λ done. Some done.out))
    (λ lists. option_map out_of (slot_ran (Some round) lists (key ∷ []) (all_resolved (scope_of (param_text param ∷ []) (map stream_text streams)) body)))
    (λ pairs a b. ran_by (Some round) (key_named param key) pairs body (param_text param ∷ []) (map stream_text streams) (key ∷ []) groups out_of (λ s. s.out) (λ s. refl) refl refl a b)
    ∙ ap (λ n. cond (length groups == n) (option_map out_of (slot_ran (Some round) groups (key ∷ []) (all_resolved (scope_of (param_text param ∷ []) (map stream_text streams)) body))) None) (length-map streams stream_text))
reduce_means round (Distance name param before after body) key groups = refl
reduce_means round (Partition name param body) key groups = refl

pub distance_means : (f : Function) (key : Value) (old new : List (List Value)) → slot_distance (function_resolved f) key old new ≡ distance_gives f key old new
distance_means (Map name params arrow out body) key old new = refl
distance_means (Reduce name param streams arrow out body) key old new = refl
distance_means (Distance name param before after body) key old new =
    twice given_of at_least_zero (slot_ran None (old ∷ new ∷ []) (key ∷ []) (all_resolved (scope_of (param_text param ∷ []) (stream_text before ∷ stream_text after ∷ [])) body))
    ∙ sym (ran_by None (key_named param key) ((before.name.text, old) ∷ (after.name.text, new) ∷ []) body (param_text param ∷ []) (stream_text before ∷ stream_text after ∷ []) (key ∷ []) (old ∷ new ∷ [])
    (λ done. at_least_zero done.given) (λ s. at_least_zero s.given) (λ s. refl) refl refl refl refl)
distance_means (Partition name param body) key old new = refl

pub partition_means : (parts round : ℕ) (f : Function) (key : Value) → slot_partition parts round (function_resolved f) key ≡ partition_gives parts round f key
partition_means parts round (Map name params arrow out body) key = refl
partition_means parts round (Reduce name param streams arrow out body) key = refl
partition_means parts round (Distance name param before after body) key = refl
partition_means parts round (Partition name param body) key =
    twice given_of (λ n. default_part (value.Int n) parts) (slot_ran (Some round) [] (key ∷ []) (all_resolved (scope_of (param_text param ∷ []) []) body))
    ∙ sym (ran_by (Some round) (key_named param key) [] body (param_text param ∷ []) [] (key ∷ []) [] (λ done. default_part (value.Int done.given) parts) (λ s. default_part (value.Int s.given) parts) (λ s. refl) refl refl refl refl)
