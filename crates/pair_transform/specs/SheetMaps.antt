-- Where the positions of a sheet go.
use Rattle.std.specs.Prelude.{◌≤◌, nat_lt, ◌&&◌, if◌then◌else◌, None, Some}
use Rattle.formula_tree.specs.Remap.{Images}
use Rattle.pair_transform.specs.declared.sheet_map.SheetMap.{SheetMap}
use Rattle.pair_transform.specs.AxisMaps.{line_map, IsAxisMap}

pub record IsSheetMap (m : SheetMap) : Type 0 where
  pub few_rows : m.size.rows ≤ 16000
  pub few_cols : m.size.cols ≤ 16000
  pub rows : IsAxisMap m.size.rows m.rows
  pub cols : IsAxisMap m.size.cols m.cols

-- what it makes of the references of a formula; positions outside the sheet have no image
abbrev pub images_of : SheetMap → Images
images_of m = record {
  rec_row = λ row. if nat_lt row m.size.rows then Some ((line_map m.rows).rec row) else None;
  rec_col = λ col. if nat_lt col m.size.cols then Some ((line_map m.cols).rec col) else None;
  span_rows = λ top bottom. if nat_lt top m.size.rows && nat_lt bottom m.size.rows then Some ((line_map m.rows).slot top, (line_map m.rows).slot bottom) else None;
  span_cols = λ left right. if nat_lt left m.size.cols && nat_lt right m.size.cols then Some ((line_map m.cols).slot left, (line_map m.cols).slot right) else None;
}
