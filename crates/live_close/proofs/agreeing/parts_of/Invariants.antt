use Rattle.std.proofs.Common.{◌≡◌, ◌++◌, true, ℕ, Some, length}
use Rattle.std.specs.Prelude.{slice_get}
use Rattle.std.specs.Vec.Iter.{into_iter_items, into_iter_len}
use Rattle.live_site.specs.declared.run.SiteEnd.{SiteEnd}
use Rattle.live_close.specs.Parts.{parts_of, AllKnow}
use Rattle.live_close.proofs.agreeing.parts_of.Given as goal

abbrev pub invariant-loop-end : goal.invariant-loop-end
invariant-loop-end g l = record {
  left : l.yielded ++ into_iter_items l.end-iterator ≡ l.fn.ends;
  count : into_iter_len l.end-iterator ≡ length (into_iter_items l.end-iterator);
  parts : l.parts ≡ parts_of l.fn.pass l.yielded;
  known : AllKnow l.yielded l.publishers;
  done : (k : ℕ) (e : SiteEnd) → slice_get l.yielded k ≡ Some e → e.done ≡ true;
}
