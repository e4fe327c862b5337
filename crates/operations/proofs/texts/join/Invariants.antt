use Rattle.std.proofs.Common.{◌≡◌, ◌≤◌, ◌+◌, ◌++◌, take, length}
use Rattle.operations.proofs.texts.join.Given as goal

abbrev pub invariant-added : goal.invariant-added
invariant-added l = record {
  so_far : l.text ≡ l.initial.text ++ take l.byte-index l.added;
  room : length l.initial.text + length l.added ≤ 255;
}
