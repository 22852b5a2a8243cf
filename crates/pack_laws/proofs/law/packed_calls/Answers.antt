use Rattle.std.proofs.Common.{[], ◌∷◌}
use Rattle.feast_run.specs.Answer.{runs_setting, steps_setting}
use Rattle.pack_laws.proofs.Empty.{is_packed}
use Rattle.pack_laws.proofs.EmptyWorld.{shows, steps as stepped}
use Rattle.pack_laws.proofs.Packs.{from_pack, one_shown, runs_from, runs_to, steps_from, steps_to, to_pack}
use Rattle.pack_laws.specs.Example.{empty_word, example_files, packed_word, world_word}
use Rattle.pack_laws.proofs.law.packed_calls.Goals as goal

pub returns : goal.returns
returns c = record {
  written = λ d. one_shown d.files d.words d.file d.packed d.world;
  step = λ d o l. (from_pack d.files d.words d.file d.packed d.world steps_setting o l, to_pack d.files d.words d.file d.packed d.world steps_setting o l);
  run = λ d o l. (from_pack d.files d.words d.file d.packed d.world runs_setting o l, to_pack d.files d.words d.file d.packed d.world runs_setting o l);
  stepped = λ d text. (steps_from d.files d.words d.file d.packed d.world text, steps_to d.files d.words d.file d.packed d.world text);
  ran = λ d text. (runs_from d.files d.words d.file d.packed d.world text, runs_to d.files d.words d.file d.packed d.world text);
  example = is_packed;
  example_ran = (shows.0, runs_to example_files (empty_word ∷ []) packed_word is_packed world_word shows.0 shows.1);
  example_stepped = (stepped.0, steps_to example_files (empty_word ∷ []) packed_word is_packed world_word stepped.0 stepped.1);
}
