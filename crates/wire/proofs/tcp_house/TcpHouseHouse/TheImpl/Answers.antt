use Rattle.wire.specs.Houses.{untold_house}
use Rattle.wire.proofs.tcp_house.TcpHouseHouse.TheImpl.Goals as goal

pub shut-tells : goal.shut-tells
shut-tells g x c = record {
  back = λ i. untold_house (c.ensures.asked i).items (c.ensures.called i) (c.ensures.doors i) (c.ensures.reads i) (c.ensures.writes i);
}
