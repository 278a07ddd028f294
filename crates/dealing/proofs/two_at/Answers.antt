use Rattle.dealing.proofs.Pairing.{firsts, seconds}
use Rattle.dealing.proofs.two_at.Goals as goal

pub returns : goal.returns
returns g c =
    let x = c.args in
    let even = c.four_at-even in
    let odd = c.four_at-odd in
    record {
      lanes = firsts x.d.now x.o g.row.N even.result odd.result even.ensures odd.ensures;
      lanes_2 = seconds x.d.now x.o g.row.N even.result odd.result even.ensures odd.ensures;
    }
