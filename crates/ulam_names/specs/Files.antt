-- The items of all files, in order.
use Rattle.std.specs.Prelude.{List, flat_map}
use Rattle.ulam_tree.specs.Raw as t
use Rattle.ulam_tree.specs.RawViews.{file_of}
use Rattle.ulam_tree.specs.declared.raw.File.{File}

abbrev pub all_items : List File → List t.Item
all_items files = flat_map file_of files
