use Rattle.std.proofs.Common.{◌∙◌}
use Rattle.border_cache.specs.News.{nth_place}
use Rattle.border_cache.proofs.Bits.{masks_more}
use Rattle.border_cache.proofs.masks.masks.Goals as goal

pub loop-n-preserved : goal.loop-n-preserved
loop-n-preserved c =
    let s = c.set_place.ensures in
    record {
      masks = masks_more (nth_place c.args.places.now) c.loop-n.n c.loop-n.masks c.set_place.new.masks c.loop-n.invariant.masks (record { count = s.count; set = s.set; others = s.others });
      count = s.count ∙ c.loop-n.invariant.count;
    }
