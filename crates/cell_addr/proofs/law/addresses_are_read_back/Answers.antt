use Rattle.cell_addr.proofs.Addresses.{cell_of-spot_text, cell_of-address, range_of-span_text}
use Rattle.cell_addr.proofs.law.addresses_are_read_back.Goals as goal

pub returns : goal.returns
returns c = record {
  cells = cell_of-spot_text;
  plain_cells = cell_of-address;
  ranges = range_of-span_text;
}
