use Rattle.std.proofs.Common.{◌≡◌, List, [], drop, length, Result}
use Rattle.feast_base.specs.Outside.{File}
use Rattle.call_form.specs.Forms.{texts}
use Rattle.feast_run.specs.Halting.{HaltValue}
use Rattle.feast_run.specs.Stages.{AreWithin, load_more}
use Rattle.feast_run.specs.Tellings.{Keeps}
use Rattle.feast_run.proofs.element_files.load_files.Given as goal

abbrev pub invariant-loop-word : goal.invariant-loop-word
invariant-loop-word g l = record {
  many : length l.sources.items ≡ l.word-index;
  short : AreWithin l.sources.items;
  files : (g.F.Shelf.state l.shelf).files ≡ (g.F.Shelf.state l.fn.shelf).files;
  kept : Keeps (g.F.Shelf.state l.fn.shelf) (g.F.Shelf.state l.shelf);
  rest : (o : Result (List File) HaltValue) → load_more (g.F.Shelf.state l.fn.shelf).files l.sources.items (texts (drop l.word-index l.words)) o →
      load_more (g.F.Shelf.state l.fn.shelf).files [] (texts l.words) o;
}
