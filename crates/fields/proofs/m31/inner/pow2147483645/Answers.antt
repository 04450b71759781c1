use Rattle.std.proofs.Common.{◌≡◌, sym}
use Rattle.fields.specs.Words.{pow_p}
use Rattle.fields.proofs.Powers.{pow_p-one, chain_mul, chain_square}
use Rattle.fields.proofs.m31.inner.pow2147483645.Goals as goal

pub returns : goal.returns
returns c = let v = c.args.v in
    let e : v ≡ pow_p v 1 = sym (pow_p-one v c.requires) in
    let e0 : c.mul-t0.result ≡ pow_p v 5 = chain_mul v 4 1 (chain_square v 1 2 e c.sqn.ensures) e c.mul-t0.ensures in
    let e1 : c.mul-t1.result ≡ pow_p v 15 = chain_mul v 10 5 (chain_square v 5 1 e0 c.sqn-2.ensures) e0 c.mul-t1.ensures in
    let e2 : c.mul-t2.result ≡ pow_p v 125 = chain_mul v 120 5 (chain_square v 15 3 e1 c.sqn-3.ensures) e0 c.mul-t2.ensures in
    let e3 : c.mul-t3.result ≡ pow_p v 255 = chain_mul v 250 5 (chain_square v 125 1 e2 c.sqn-4.ensures) e0 c.mul-t3.ensures in
    let e4 : c.mul-t4.result ≡ pow_p v 65535 = chain_mul v 65280 255 (chain_square v 255 8 e3 c.sqn-5.ensures) e3 c.mul-t4.ensures in
    let e5 : c.mul-t5.result ≡ pow_p v 16777215 = chain_mul v 16776960 255 (chain_square v 65535 8 e4 c.sqn-6.ensures) e3 c.mul-t5.ensures in
    chain_mul v 2147483520 125 (chain_square v 16777215 7 e5 c.sqn-7.ensures) e2 c.mul.ensures
