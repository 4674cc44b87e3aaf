use Rattle.subsystem.proofs.seen.headline.Goals as goal

pub returns : goal.returns
returns c = record {
  holds = λ setup h s lawful run. record {
    by_its_path = c.by_its_path.ensures.paths setup h s lawful run;
    device_paths = c.device_paths.ensures.ways setup h s lawful run;
    one_engine = c.one_engine.ensures.one setup h s lawful run;
    links = c.links.ensures.links setup h s lawful run;
    one_holder = c.one_holder.ensures.one setup h s lawful run;
    both_agree = c.both_agree.ensures.agree setup h s lawful run;
    begins_its_own = c.begins_its_own.ensures.own setup h s run;
    dedicated_offers = c.dedicated_offers.ensures.dedicated setup h s run;
    logical_offers = c.logical_offers.ensures.logical setup h s run;
    last_used = c.last_used.ensures.used setup h s run;
    begun_once = c.beginnings.ensures.once setup h s lawful run;
    cleared_once = c.cleared_once.ensures setup h s run;
    codes = c.codes.ensures.table setup h s run;
    absent = c.codes.ensures.absent setup h s run;
    functions = c.functions.ensures.follow setup h s run;
    made = c.serials.ensures.made setup h s run;
    pending = c.serials.ensures.pending setup h s run;
    deferred_codes = c.deferred_codes.ensures.due setup h s run;
    status_bytes = c.status_bytes.ensures.due setup h s run;
    losses = c.losses.ensures.right setup h s lawful run;
    silent = c.silent.ensures setup h s run;
    asked = c.requests.ensures.asked setup h s run;
    given_once = c.requests.ensures.once setup h s run;
    lowest_first = c.requests.ensures.lowest setup h s run;
    oldest_first = c.requests.ensures.oldest setup h s run;
    choices = c.choices.ensures.reasons setup h s run;
    halts = c.halts.ensures.done setup h s lawful run;
    path_reports = c.path_reports.ensures.paths setup h s run;
    programs = c.told_by_entries.ensures.told setup lawful h s run;
  };
}
