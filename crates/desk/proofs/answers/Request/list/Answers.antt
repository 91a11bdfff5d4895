-- The text is what stands on the page. Assumes nothing.
use borrow.Author.Rules.{rules}
use Rattle.desk.proofs.Handed.{list_handed}
use Rattle.desk.proofs.answers.Request.list.Goals as goal

pub hand_list-requires : goal.hand_list-requires
hand_list-requires g c =
    let a = c.args in
    let made = c.text-count in
    list_handed a.self.now.choices.bits a.self.now.t.now a.work.now a.answer.now a.page.now c.tally.result c.mode-mode.result c.tally.ensures c.mode-mode.ensures
    made.result made.new.out made.new.work made.new.answer made.ensures.0 made.ensures.1 (search rules) (search rules) c.ended-end.ensures c.requires
