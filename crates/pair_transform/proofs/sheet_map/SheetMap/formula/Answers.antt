use Rattle.pair_transform.proofs.Mapped.{images_spelled}
use Rattle.pair_transform.proofs.sheet_map.SheetMap.formula.Goals as goal

pub rename-requires : goal.rename-requires
rename-requires c = images_spelled c.args.self.now c.requires c.in_ok-moved.moved
