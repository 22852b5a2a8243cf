use Rattle.serial_order.proofs.Moment as moment
use Rattle.serial_order.proofs.law.news_at_any_moment.Goals as goal

pub returns : goal.returns
returns g c e h lower higher p = moment.news_at_any_moment c e h lower higher p
