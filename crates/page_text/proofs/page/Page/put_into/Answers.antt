use Rattle.page_text.proofs.Growing.{put_whole}
use Rattle.page_text.proofs.page.Page.put_into.Goals as goal

pub returns-clause-page : goal.returns-clause-page
returns-clause-page g c = put_whole _ _ c.args.self.now.text.items _ _ c.as_slice.ensures.value c.args.self.now.made c.put.ensures
