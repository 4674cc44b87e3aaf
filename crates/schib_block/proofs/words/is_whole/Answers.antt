use Rattle.schib_block.proofs.words.is_whole.Goals as goal

pub returns : goal.returns
returns c =
    let f = c.is_in_range.ensures in
    record {
      range = record {
        parameter = f.parameter;
        device_number = f.device;
        logical = f.logical;
        not_operational = f.not_operational;
        last_used = f.last_used;
        installed = f.installed;
        measurement_block = f.block;
        operational = c.are_in_range.ensures.operational;
        available = c.are_in_range.ensures.available;
        chpids = c.are_bytes.ensures.bytes;
      };
      eight = c.are_bytes.ensures.eight;
    }
