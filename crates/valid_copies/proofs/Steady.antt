-- What calls on disks leave, whatever they are: counts that only grow, and what the disks are.
use Rattle.std.proofs.Common.{◌≡◌, ℕ, ◌≤◌, Option, IsSome, refl, ◌∙◌, arith}
use Rattle.hal_outside.specs.DiskTold.{DiskTold}

-- over some calls faults and misses did not fall, no read missed where the disks tell, and the disks stayed what they were
pub record Steady (f f' m m' : ℕ) (before now : Option DiskTold) (shows shows' sound sound' : Type 0) : Type 0 where
  pub faults : f ≤ f'
  pub misses : m ≤ m'
  pub not_missed : IsSome before → m' ≡ m
  pub tells : IsSome before → IsSome now
  pub shown : shows → shows'
  pub soundness : sound → sound'

pub steady_none : (f m : ℕ) (told : Option DiskTold) (shows sound : Type 0) → Steady f f m m told told shows shows sound sound
steady_none f m told shows sound = record {
  faults = omega arith;
  misses = omega arith;
  not_missed = λ s. refl;
  tells = λ s. s;
  shown = λ s. s;
  soundness = λ s. s;
}

pub steady_more : (f f' f'' m m' m'' : ℕ) (before between after : Option DiskTold) (shows shows' shows'' sound sound' sound'' : Type 0)
    → Steady f f' m m' before between shows shows' sound sound' → Steady f' f'' m' m'' between after shows' shows'' sound' sound'' → Steady f f'' m m'' before after shows shows'' sound sound''
steady_more f f' f'' m m' m'' before between after shows shows' shows'' sound sound' sound'' a b = record {
  faults = omega (arith, a.faults, b.faults);
  misses = omega (arith, a.misses, b.misses);
  not_missed = λ s. b.not_missed (a.tells s) ∙ a.not_missed s;
  tells = λ s. b.tells (a.tells s);
  shown = λ s. b.shown (a.shown s);
  soundness = λ s. b.soundness (a.soundness s);
}
